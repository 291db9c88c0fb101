use Rattle.std.proofs.Common.{ap, map, arith}
use Rattle.commands.specs.Script.{event_of}
use Rattle.commands.proofs.Played.{all_played, none_played, played_more, stops_more}
use Rattle.commands.proofs.playing.play.Goals as goal

pub loop-rest-init : goal.loop-rest-init
loop-rest-init g c = (none_played _ _ _, omega arith)

pub loop-rest-preserved : goal.loop-rest-preserved
loop-rest-preserved g c = (
  played_more _ _ _ _ _ _ _ _ _ c.loop-rest.invariant.0 (ap (map event_of) c.first_line.ensures.line) c.in-Ok.ensures.ok,
  omega (arith, c.loop-rest.invariant.1, c.first_line.ensures.shorter),
)

pub returns-in-Err-clause-fault : goal.returns-in-Err-clause-fault
returns-in-Err-clause-fault g c = stops_more _ _ _ _ _ _ _ _ _ _ c.loop-rest.invariant.0 (ap (map event_of) c.first_line.ensures.line) c.in-Err.ensures.fault
