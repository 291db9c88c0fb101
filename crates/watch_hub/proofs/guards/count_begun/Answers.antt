-- Halving finds how many begin with the key or before it.
use Rattle.std.proofs.Common.{rules, arith}
use Rattle.std.proofs.lemmas.List.Sorted.{IsPartitionPoint-from_clause}
use Rattle.watch_hub.specs.Guards.{has_begun}
use Rattle.watch_hub.proofs.Guarding.{partitioned}
use Rattle.watch_hub.proofs.guards.count_begun.Goals as goal

pub returns-clause-before : goal.returns-clause-before
returns-clause-before c =
    let point = IsPartitionPoint-from_clause (λ g. has_begun g.range c.args.key.now) _ _ c.partition_point.ensures.partitioned
    (partitioned c.args.key.now _ c.requires) (λ a r q k. search rules) in
    λ j d l. point.0 j d (omega arith) l

pub returns-clause-behind : goal.returns-clause-behind
returns-clause-behind c =
    let point = IsPartitionPoint-from_clause (λ g. has_begun g.range c.args.key.now) _ _ c.partition_point.ensures.partitioned
    (partitioned c.args.key.now _ c.requires) (λ a r q k. search rules) in
    λ j d l m. point.1 j d l m
