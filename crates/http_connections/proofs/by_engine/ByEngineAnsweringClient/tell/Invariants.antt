use Rattle.http_connections.specs.Engines.{AreQuiet}
use Rattle.http_connections.proofs.by_engine.ByEngineAnsweringClient.tell.Given as goal

-- whatever has told nothing so far
abbrev pub invariant-loop : goal.invariant-loop
invariant-loop g l = AreQuiet l.self.events.engine.now.ids l.number l.initial.state l.state
