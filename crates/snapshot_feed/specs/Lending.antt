-- What a reader is once what it lent to be read is gone.
use Rattle.std.specs.Prelude.{◌≡◌, suc, true, false, Result, Ok, Err, ⊤}
use Rattle.std.specs.Borrow.{follows_so, Bor, MutBor, Fml}
use mathlib.Core.Option.{none}
use mathlib.Core.List.{IsPrefix}
use Rattle.kv_model.specs.declared.refusal.Refusal.{Refusal}
use Rattle.snapshot_feed.specs.Seats.{Looking, Reads}
use Rattle.snapshot_feed.specs.contracts.reader.SnapReader.{the_row}

-- it is within tables of a front of its list, which begins with all that it knew of, and which it knows of from then on
pub record Enters (old new : Reads) : Type 0 where
  pub inside : new.inside ≡ true
  pub begins : IsPrefix old.known new.known
  pub book : new.book ≡ old.book

-- and has looked at what is shown once for that
abbrev pub EntersAtOnce : Looking → Looking → Type 0
EntersAtOnce old new = Enters old.reads new.reads × (new.looks ≡ suc old.looks)

-- it is what was read; or it entered no tables, and is within none
abbrev pub EndsAs : Looking → Result (Bor Looking) Refusal → Looking → Type 0
EndsAs old (Ok r) last = (r.now ≡ last) × EntersAtOnce old last
EndsAs old (Err e) last = last.reads ≡ record old.reads { inside = false }

abbrev pub LendsReading : MutBor Looking → Result (Bor Looking) Refusal → Fml
LendsReading s r = follows_so the_row the_row s.ghost_name none (λ _ _. ⊤) (λ last. EndsAs s.now r last)
