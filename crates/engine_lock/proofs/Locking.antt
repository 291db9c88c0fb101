-- The lock goes on keeping what it keeps as an event is entered.
use Rattle.std.proofs.Common.{◌≡◌, Bool, true, false, cond, not, List, [], ◌∷◌, ◌++◌, ap, refl, sym, subst, ◌∙◌}
use mathlib.Core.Bool.{beq}
use Rattle.kv_model.specs.declared.ids.Ids.{Ids}
use Rattle.kv_model.specs.Feed.{Published}
use Rattle.kv_model.specs.World.{World}
use Rattle.store_laws.specs.Stands.{StandsFor}
use Rattle.request_core.specs.State.{CoreState, tables_of}
use Rattle.recording.specs.Lines.{Written}
use Rattle.event_book.specs.Events.{Entry, clocked}
use Rattle.event_script.specs.Scripts.{IsWritten, Taken}
use Rattle.event_script.specs.Taking.{taken_next}
use Rattle.engine_lock.specs.Fits.{IsLocked, MakesOn}
use Rattle.engine_lock.proofs.Fitting.{fits_entered}

pub locked_more : (ids : Ids) (old mid new : CoreState) (log later : List Entry) (fed more : List Published) (lines noted : Written) (t : Taken) (x : Entry)
    → IsLocked old log fed lines t → ((w : World) → StandsFor old.store w → StandsFor mid.store (clocked w x.event))
    → tables_of mid ≡ tables_of old → MakesOn ids x.event x.outcome mid new fed more → later ≡ log ++ x ∷ []
    → (IsWritten lines t log → IsWritten noted t (log ++ x ∷ [])) → IsLocked new later more noted t
locked_more ids old mid new log later fed more lines noted t x locked moved kept made grew written =
    subst (λ l. IsLocked new l more noted t) (sym grew) (record {
      fits = fits_entered ids old mid new log fed more x locked.fits moved kept made;
      written = written locked.written;
    })

-- where no line comes any more, none does behind a taking
pub over_next : (t u : Taken) (all : Bool) (log : List Entry) → u ≡ taken_next t all log → t.is_over ≡ true → u.is_over ≡ true
over_next t u all log is over =
    ap (λ (x : Taken). x.is_over) is ∙ ap (λ b. (cond b t (record { front = log; is_over = not all })).is_over) over ∙ over

-- two truth values that were found equal
pub bools : (a b : Bool) → beq a b ≡ true → a ≡ b
bools true true h = refl
bools true false h = absurd (cc h)
bools false true h = absurd (cc h)
bools false false h = refl
