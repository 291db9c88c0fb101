-- Halving finds the first revision that is after the place.
use Rattle.std.proofs.Common.{rules}
use Rattle.std.proofs.lemmas.List.Sorted.{IsPartitionPoint-from_clause}
use Rattle.kv_model.specs.History.{rev_le}
use Rattle.store_laws.proofs.Rising.{count_while-point}
use Rattle.key_index.proofs.KeyRevisions.{partitioned}
use Rattle.key_index.proofs.revisions.count_up_to.Goals as goal

pub returns : goal.returns
returns c =
    let point = IsPartitionPoint-from_clause (λ q. rev_le q c.args.place) _ _ c.partition_point.ensures.partitioned
    (partitioned c.args.place _ c.requires) (λ a r q k. search rules) in
    count_while-point (λ q. rev_le q c.args.place) _ _ (rw c.args.revisions.now.ok.0 at c.partition_point.ensures.bound) point
