-- The pages near the front are past together, or all that are past stand among them.
use Rattle.std.proofs.Common.{ap, arith, sym, ◌∙◌}
use Rattle.version_table.specs.Paged.{pages_before}
use Rattle.version_table.proofs.PageParts.{past-front, past-back}
use Rattle.version_table.proofs.galloping.+forward.Goals as goal

pub returns-then-ends_past-clause-count : goal.returns-then-ends_past-clause-count
returns-then-ends_past-clause-count t c =
    let past = past-front c.args.rev c.parts.result.0.now c.parts.result.1.now c.parts.ensures.rising.0 c.parts.ensures.held.0
    (sym c.ends_past.ensures ∙ c.if-ends_past.true) in
    let near = c.parts.ensures.index in
    let far = c.forward.ensures.count in
    let whole = ap (pages_before c.args.rev) c.parts.ensures.whole in
    omega arith

pub returns-clause-count : goal.returns-clause-count
returns-clause-count t c =
    c.halved-2.ensures.count ∙ sym (past-back c.args.rev c.parts.result.0.now c.parts.result.1.now (sym c.ends_past.ensures ∙ c.if-ends_past.false))
    ∙ sym (ap (pages_before c.args.rev) c.parts.ensures.whole)
