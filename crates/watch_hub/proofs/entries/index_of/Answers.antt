-- Halving finds the one place that may have the number.
use Rattle.std.proofs.Common.{option_copied, rules, sym, ◌∙◌, ap}
use Rattle.std.specs.Prelude.{nat_lt}
use Rattle.watch_hub.proofs.Finding.{partitioned, at-point, hit, miss, past}
use Rattle.std.proofs.lemmas.List.Sorted.{IsPartitionPoint-from_clause}
use Rattle.watch_hub.proofs.entries.index_of.Goals as goal

pub returns-in-Some-clause-index : goal.returns-in-Some-clause-index
returns-in-Some-clause-index c =
    let point = IsPartitionPoint-from_clause (λ p. nat_lt p.number c.args.number) _ _ c.partition_point-index.ensures.partitioned
    (partitioned c.args.number _ c.requires) (λ a r q k. search rules) in
    hit c.args.number _ _ c.in-Some.place.now (at-point c.args.number _ _ c.requires c.partition_point-index.ensures.bound point)
    (sym c.place_at.ensures ∙ ap option_copied c.in-Some.is) c.if-place-number.true

pub returns-in_default-clause-index : goal.returns-in_default-clause-index
returns-in_default-clause-index c =
    let point = IsPartitionPoint-from_clause (λ p. nat_lt p.number c.args.number) _ _ c.partition_point-index.ensures.partitioned
    (partitioned c.args.number _ c.requires) (λ a r q k. search rules) in
    miss c.args.number _ _ c.in-Some.place.now (at-point c.args.number _ _ c.requires c.partition_point-index.ensures.bound point)
    (sym c.place_at.ensures ∙ ap option_copied c.in-Some.is) c.if-place-number.false

pub returns-in_default-2-clause-index : goal.returns-in_default-2-clause-index
returns-in_default-2-clause-index c =
    let point = IsPartitionPoint-from_clause (λ p. nat_lt p.number c.args.number) _ _ c.partition_point-index.ensures.partitioned
    (partitioned c.args.number _ c.requires) (λ a r q k. search rules) in
    past c.args.number _ _ (at-point c.args.number _ _ c.requires c.partition_point-index.ensures.bound point)
    (sym c.place_at.ensures ∙ ap option_copied c.in_default.is)
