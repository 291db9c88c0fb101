-- Halving finds the first page that does not stand wholly before the revision.
use Rattle.std.proofs.Common.{rules}
use Rattle.std.proofs.lemmas.List.Sorted.{IsPartitionPoint-from_clause}
use Rattle.store_laws.proofs.Rising.{count_while-point}
use Rattle.version_table.specs.Paged.{is_past}
use Rattle.version_table.proofs.PageLookups.{past-partitioned}
use Rattle.version_table.proofs.galloping.halved.Goals as goal

pub returns-clause-count : goal.returns-clause-count
returns-clause-count c =
    let point = IsPartitionPoint-from_clause (λ p. is_past c.args.rev p) _ _ c.partition_point.ensures.partitioned
    (past-partitioned c.args.rev _ c.requires.rising c.requires.held)
    (λ a r q k. search rules) in
    count_while-point (λ p. is_past c.args.rev p) _ _ c.partition_point.ensures.bound point
