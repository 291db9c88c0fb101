-- Halving finds the first revision that is not of an earlier main revision.
use Rattle.std.proofs.Common.{rules}
use Rattle.std.specs.Prelude.{nat_lt}
use Rattle.std.proofs.lemmas.List.Sorted.{IsPartitionPoint-from_clause}
use Rattle.store_laws.proofs.Rising.{count_while-point}
use Rattle.key_index.proofs.KeyRevisions.{mains-partitioned}
use Rattle.key_index.proofs.revisions.count_before.Goals as goal

pub returns : goal.returns
returns c =
    let point = IsPartitionPoint-from_clause (λ q. nat_lt q.main c.args.main) _ _ c.partition_point.ensures.partitioned
    (mains-partitioned c.args.main _ c.requires) (λ a r q k. search rules) in
    count_while-point (λ q. nat_lt q.main c.args.main) _ _ (rw c.args.revisions.now.ok.0 at c.partition_point.ensures.bound) point
