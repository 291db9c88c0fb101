-- Halving finds the first key that is not below.
use Rattle.std.proofs.Common.{rules}
use Rattle.std.proofs.lemmas.List.Sorted.{IsPartitionPoint-from_clause}
use Rattle.kv_model.specs.Keys.{key_lt}
use Rattle.txn_core.proofs.Counting.{partitioned-lt, count-point}
use Rattle.txn_core.proofs.keys.count_below.Goals as goal

pub returns : goal.returns
returns c =
    let point = IsPartitionPoint-from_clause (λ k. key_lt k.now c.args.key.now) _ _ c.partition_point.ensures.partitioned
    (partitioned-lt c.args.key.now c.args.keys.now c.requires) (λ a r q k. search rules) in
    count-point (λ k. key_lt k c.args.key.now) c.args.keys.now _ c.partition_point.ensures.bound point
