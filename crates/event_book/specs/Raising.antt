-- By how much the events of each holder raise the revision.
use Rattle.std.specs.Prelude.{◌+◌, ◌-◌, ◌==◌, ℕ, List, [], ◌∷◌, Bool, true, false, cond}
use Rattle.kv_model.specs.Follows.{Outcome}
use Rattle.kv_model.specs.Wire.{WireOutcome}
use Rattle.kv_model.specs.World.{World, opening, revision}
use Rattle.event_book.specs.Callers.{Caller}
use Rattle.event_book.specs.Events.{Entry, after}

-- one event in its world
abbrev pub rise_of : World → Entry → ℕ
rise_of w e = revision (after w e) - revision w

-- those of a holder among the events from a world on
abbrev pub raised_from : ℕ → World → List Entry → ℕ
raised_from n w [] = 0
raised_from n w (e ∷ es) = cond (e.by == n) (rise_of w e) 0 + raised_from n (after w e) es

-- and among all of them
abbrev pub raised_by : ℕ → List Entry → ℕ
raised_by n log = raised_from n opening log

-- those that a holder has seen of its own
abbrev pub raises : Caller → ℕ
raises c = raised_by c.number c.front

-- an event without memory was not made
abbrev pub was_made : WireOutcome → Bool
was_made Outcome.memory = false
was_made (Outcome.lost l) = true
was_made (Outcome.said t) = true
