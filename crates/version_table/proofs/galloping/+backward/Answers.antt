-- The pages far behind are past together, or all that are past stand among them.
use Rattle.std.proofs.Common.{◌+◌, length, ap, sym, ◌∙◌}
use Rattle.version_table.specs.Paged.{pages_before}
use Rattle.version_table.proofs.PageParts.{past-front, past-back}
use Rattle.version_table.proofs.galloping.+backward.Goals as goal

pub returns-then-ends_past-clause-count : goal.returns-then-ends_past-clause-count
returns-then-ends_past-clause-count t c =
    let past = past-front c.args.rev c.parts.result.0.now c.parts.result.1.now c.parts.ensures.rising.0 c.parts.ensures.held.0
    (sym c.ends_past.ensures ∙ c.if-ends_past.true) in
    ap (λ n. length c.parts.result.0.now + n) c.halved-then-ends_past.ensures.count ∙ sym past ∙ sym (ap (pages_before c.args.rev) c.parts.ensures.whole)

pub returns-clause-count : goal.returns-clause-count
returns-clause-count t c =
    c.backward.ensures.count ∙ sym (past-back c.args.rev c.parts.result.0.now c.parts.result.1.now (sym c.ends_past.ensures ∙ c.if-ends_past.false))
    ∙ sym (ap (pages_before c.args.rev) c.parts.ensures.whole)
