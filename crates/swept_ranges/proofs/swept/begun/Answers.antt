-- Halving finds how many begin with the key or before it.
use Rattle.std.proofs.Common.{rules, sym}
use Rattle.std.proofs.lemmas.List.Sorted.{IsPartitionPoint-from_clause}
use Rattle.store_laws.proofs.Rising.{count_while-point}
use Rattle.swept_ranges.specs.Ends.{begins_by}
use Rattle.swept_ranges.proofs.Order.{halved}
use Rattle.swept_ranges.proofs.swept.begun.Goals as goal

pub returns-clause-count : goal.returns-clause-count
returns-clause-count c = λ o.
    let point = IsPartitionPoint-from_clause (begins_by c.args.key.now) _ _ c.partition_point.ensures.partitioned
    (halved c.args.key.now _ o) (λ a r q k. search rules) in
    sym (count_while-point (begins_by c.args.key.now) _ _ c.partition_point.ensures.bound point)
