use Rattle.std.proofs.Common.{[], sym}
use Rattle.watch_hub.proofs.Endless.{endless, all-endless, one-ends, interval-ends}
use Rattle.watch_hub.proofs.bounds.is_endless.Goals as goal

pub returns-in-All : goal.returns-in-All
returns-in-All c = sym (endless c.args.range.now [] (all-endless c.args.range.now c.in-All.ensures))

pub returns-in-From : goal.returns-in-From
returns-in-From c = sym (endless c.args.range.now c.in-From.field-0.now c.in-From.ensures)

pub returns-in-Key : goal.returns-in-Key
returns-in-Key c = sym (one-ends c.args.range.now c.in-Key.field-0.now c.in-Key.ensures)

pub returns-in-Interval : goal.returns-in-Interval
returns-in-Interval c = sym (interval-ends c.args.range.now c.in-Interval.from.now c.in-Interval.to.now c.in-Interval.ensures)
