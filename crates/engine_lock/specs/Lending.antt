-- What a client is once what it lent to be read is gone.
use Rattle.std.specs.Prelude.{◌≡◌, Result, Ok, Err, ⊤}
use Rattle.std.specs.Borrow.{follows_so, Bor, MutBor, Fml, RattleType}
use Rattle.std.specs.declared.sync.ledger.Ledger as ledger
use Rattle.event_book.specs.declared.naming.ListName as lists
use mathlib.Core.Option.{none}
use Rattle.kv_model.specs.declared.refusal.Refusal.{Refusal}
use Rattle.engine_lock.specs.declared.opening.EngineName as names
use Rattle.engine_lock.specs.contracts.client.Client.{the_row}
use Rattle.engine_lock.specs.Locked.{Caller, left}
use Rattle.engine_lock.specs.Readings.{Enters}

-- it is what was read; or it entered nothing, and is in no reading
abbrev pub EndsAs : Caller → Result (Bor Caller) Refusal → Caller → Type 0
EndsAs c (Ok r) last = (r.now ≡ last) × Enters c last
EndsAs c (Err e) last = last ≡ left c

module _ (T : RattleType) (n : names.Ghosts T.Denot) (b : lists.Ghosts T.Denot) (g : ledger.Ghosts T.Denot) where
  abbrev pub LendsReading : MutBor Caller → Result (Bor Caller) Refusal → Fml
  LendsReading s r = follows_so (the_row T n b g) (the_row T n b g) s.ghost_name none (λ _ _. ⊤) (λ last. EndsAs s.now r last)
