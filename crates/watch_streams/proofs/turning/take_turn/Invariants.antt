use Rattle.watch_streams.specs.Turns.{Goes}
use Rattle.watch_streams.proofs.turning.take_turn.Given as goal

-- some steps were made, of which none was the last
abbrev pub invariant-loop : goal.invariant-loop
invariant-loop g l = Goes l.fn.events.engine.now.ids l.fn.client l.fn.line l.client l.line
