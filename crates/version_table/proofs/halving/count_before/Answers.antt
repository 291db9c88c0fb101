-- Halving finds the first version that is not before the revision.
use Rattle.std.proofs.Common.{rules}
use Rattle.std.proofs.lemmas.List.Sorted.{IsPartitionPoint-from_clause}
use Rattle.kv_model.specs.History.{rev_lt}
use Rattle.store_laws.proofs.RevOrder.{rev_lt-trans}
use Rattle.store_laws.proofs.Rising.{count_while-point, partitioned}
use Rattle.version_table.specs.Rising.{rev_of}
use Rattle.version_table.proofs.halving.count_before.Goals as goal

pub returns : goal.returns
returns c =
    let point = IsPartitionPoint-from_clause (λ v. rev_lt v.rev c.args.rev) _ _ c.partition_point.ensures.partitioned
    (partitioned rev_of (λ v. rev_lt v.rev c.args.rev) (λ v w h g. rev_lt-trans v.rev w.rev c.args.rev h g) _ c.requires)
    (λ a r q k. search rules) in
    count_while-point (λ v. rev_lt v.rev c.args.rev) _ _ c.partition_point.ensures.bound point
