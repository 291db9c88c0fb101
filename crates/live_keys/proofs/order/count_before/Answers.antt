-- Halving finds how many come before.
use Rattle.std.proofs.Common.{rules}
use Rattle.std.proofs.lemmas.List.Sorted.{IsPartitionPoint-from_clause}
use Rattle.store_laws.proofs.Rising.{count_while-point}
use Rattle.live_keys.specs.Orders.{is_before}
use Rattle.shown_ranges.proofs.Falling.{falls-partitioned}
use Rattle.live_keys.proofs.Places.{before-falls, ordered-rises}
use Rattle.live_keys.proofs.order.count_before.Goals as goal

pub returns : goal.returns
returns c = λ up.
    let point = IsPartitionPoint-from_clause (is_before c.args.operand.now c.args.from) _ _ c.partition_point.ensures.partitioned
    (falls-partitioned (is_before c.args.operand.now c.args.from) c.args.placed.now
    (before-falls c.args.operand.now c.args.from c.args.placed.now (ordered-rises c.args.operand.now c.args.placed.now up)))
    (λ a r q k. search rules) in
    count_while-point (is_before c.args.operand.now c.args.from) _ _ c.partition_point.ensures.bound point
