-- Halving finds the first key that is above.
use Rattle.std.proofs.Common.{rules}
use Rattle.std.proofs.lemmas.List.Sorted.{IsPartitionPoint-from_clause}
use Rattle.kv_model.specs.Keys.{key_le}
use Rattle.txn_core.proofs.Counting.{partitioned-le, count-point}
use Rattle.txn_core.proofs.keys.count_up_to.Goals as goal

pub returns : goal.returns
returns c =
    let point = IsPartitionPoint-from_clause (λ k. key_le k.now c.args.key.now) _ _ c.partition_point.ensures.partitioned
    (partitioned-le c.args.key.now c.args.keys.now c.requires) (λ a r q k. search rules) in
    count-point (λ k. key_le k c.args.key.now) c.args.keys.now _ c.partition_point.ensures.bound point
