-- Halving finds the first key that is not below the key.
use Rattle.std.proofs.Common.{◌≡◌, sym, ◌∙◌, ap, subst, rules}
use Rattle.std.proofs.lemmas.List.Sorted.{IsPartitionPoint-from_clause}
use Rattle.store_laws.proofs.Rising.{count_while-point}
use Rattle.key_pages.specs.Pairs.{IsAscending}
use Rattle.key_pages.specs.Paged.{count_below, is_below}
use Rattle.key_pages.proofs.Places.{below-partitioned}
use Rattle.key_pages.proofs.page.Page.halved.Goals as goal

pub returns-clause-value : goal.returns-clause-value
returns-clause-value g c =
    let same : c.deref.result.now ≡ c.args.self.now = c.deref.ensures.value ∙ c.self.view_is in
    let point = IsPartitionPoint-from_clause (is_below c.args.key.now) c.deref.result.now c.partition_point.result c.partition_point.ensures.partitioned
    (below-partitioned c.args.key.now c.deref.result.now (subst IsAscending (sym same) c.requires))
    (λ a r q k. search rules) in
    count_while-point (is_below c.args.key.now) c.deref.result.now c.partition_point.result c.partition_point.ensures.bound point
    ∙ ap (count_below c.args.key.now) same
