-- Behind those that are before the revision stand those that are not.
use Rattle.std.proofs.Common.{◌≤◌, drop, length, sym, ◌∙◌, ap, subst}
use Rattle.kv_model.specs.History.{rev_lt}
use Rattle.store_laws.proofs.Rising.{count_while-le}
use Rattle.version_table.proofs.PageLookups.{from-here}
use Rattle.version_table.proofs.halving.versions_from.Goals as goal

pub rest_from-requires : goal.rest_from-requires
rest_from-requires c =
    subst (λ k. k ≤ length c.args.versions.now) (sym c.count_before.ensures)
    (count_while-le (λ v. rev_lt v.rev c.args.rev) c.args.versions.now)

pub returns : goal.returns
returns c =
    c.rest_from.ensures ∙ ap (λ k. drop k c.args.versions.now) c.count_before.ensures ∙ from-here c.args.rev c.args.versions.now c.requires
