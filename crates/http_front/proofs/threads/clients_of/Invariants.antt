use Rattle.std.specs.Prelude.{◌≡◌, ◌+◌, length}
use Rattle.http_front.proofs.threads.clients_of.Given as goal

abbrev pub invariant-loop : goal.invariant-loop
invariant-loop g l = (length l.clients.items ≡ l.counter)
    × (l.engine ≡ record l.initial.engine { clients = l.initial.engine.clients + l.counter })
