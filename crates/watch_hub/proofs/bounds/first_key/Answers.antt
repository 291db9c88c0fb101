use Rattle.std.proofs.Common.{[], ◌∙◌}
use Rattle.watch_hub.proofs.Endless.{first-endless, all-endless, first-ends, one-ends, interval-ends}
use Rattle.watch_hub.proofs.bounds.first_key.Goals as goal

pub returns-in-All : goal.returns-in-All
returns-in-All c = first-endless c.args.range.now [] (all-endless c.args.range.now c.in-All.ensures)

pub returns-in-From : goal.returns-in-From
returns-in-From c = c.as_slice.ensures ∙ first-endless c.args.range.now c.in-From.from.now c.in-From.ensures

pub returns-in-Key : goal.returns-in-Key
returns-in-Key c = c.as_slice-in-Key.ensures ∙ first-ends c.args.range.now (one-ends c.args.range.now c.in-Key.field-0.now c.in-Key.ensures)

pub returns-in-Interval : goal.returns-in-Interval
returns-in-Interval c =
    c.as_slice-in-Interval.ensures
    ∙ first-ends c.args.range.now (interval-ends c.args.range.now c.in-Interval.from.now c.in-Interval.to.now c.in-Interval.ensures)
