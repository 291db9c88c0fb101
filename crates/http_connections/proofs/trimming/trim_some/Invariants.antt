use Rattle.std.specs.Prelude.{◌<◌}
use Rattle.http_connections.specs.Engines.{AreMadeBehind}
use Rattle.http_connections.proofs.trimming.trim_some.Given as goal

abbrev pub invariant-loop : goal.invariant-loop
invariant-loop g l = AreMadeBehind l.events.engine.now.ids l.initial.client l.fn.refusals l.refusals l.client × (l.refusals < 1000)
