use Rattle.std.specs.Prelude.{◌≡◌, All, map}
use Rattle.event_book.specs.Callers.{Owns}
use Rattle.engine_lock.proofs.LastEvents.{Known}
use Rattle.engine_lock.proofs.state.ending.take_back.Given as goal

abbrev pub invariant-loop-client : goal.invariant-loop-client
invariant-loop-client g l = (l.returned.holders ≡ l.initial.returned.holders)
    × (l.returned.list ≡ map (λ c. c.holder) l.yielded)
    × All (Owns l.listing) l.returned.list
    × All (Known l.listing) l.yielded
