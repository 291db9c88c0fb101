-- Halving finds the first page that starts above the key.
use Rattle.std.proofs.Common.{rules}
use Rattle.std.proofs.lemmas.List.Sorted.{IsPartitionPoint-from_clause}
use Rattle.store_laws.proofs.Rising.{count_while-point}
use Rattle.key_pages.specs.Paged.{starts_up_to}
use Rattle.key_pages.proofs.Pages.{starts-partitioned}
use Rattle.key_pages.proofs.look_up.halved.Goals as goal

pub returns-clause-value : goal.returns-clause-value
returns-clause-value g c =
    let point = IsPartitionPoint-from_clause (starts_up_to c.args.key.now) _ _ c.partition_point.ensures.partitioned
    (starts-partitioned c.args.key.now _ c.requires.ascending c.requires.held)
    (λ a r q k. search rules) in
    count_while-point (starts_up_to c.args.key.now) _ _ c.partition_point.ensures.bound point
