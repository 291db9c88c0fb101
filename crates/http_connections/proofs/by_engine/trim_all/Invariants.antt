use Rattle.std.specs.Prelude.{◌<◌}
use Rattle.http_connections.specs.Engines.{AreMadeBehind}
use Rattle.http_connections.proofs.by_engine.trim_all.Given as goal

abbrev pub invariant-loop : goal.invariant-loop
invariant-loop g l = AreMadeBehind l.events.engine.now.ids l.initial.client 0 l.refusals l.client × (l.refusals < 1000)
