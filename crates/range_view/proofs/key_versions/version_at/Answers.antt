-- The version at the revision is the next one.
use Rattle.std.proofs.Common.{◌+◌, ◌∙◌, sym, ap, drop}
use Rattle.range_view.specs.OneKey.{held, led_by, standing_at}
use Rattle.range_view.proofs.OneKey.{led, standing-end, standing-step}
use Rattle.range_view.proofs.key_versions.version_at.Goals as goal

pub returns-in-Some-clause-next : goal.returns-in-Some-clause-next
returns-in-Some-clause-next c =
    let vs = c.args.table.now in
    let qs = held c.args.revisions in
    let later = standing_at vs (drop (c.args.index + 1) qs) in
    led c.get.result _ later (standing-step vs qs c.args.index c.in-Some.rev (sym c.rev_at.ensures.value ∙ c.in-Some.is)
    ∙ ap (λ o. led_by o later) (sym c.get.ensures.value))

pub returns-in-None-clause-next : goal.returns-in-None-clause-next
returns-in-None-clause-next c = standing-end c.args.table.now (held c.args.revisions) c.args.index (sym c.rev_at.ensures.value ∙ c.in-None.is)
