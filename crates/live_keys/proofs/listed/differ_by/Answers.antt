-- Where it is asked whether they differ, they pass where they do.
use Rattle.std.proofs.Common.{◌∙◌, ap, sym, subst, List}
use Rattle.std.specs.List.{list_all}
use Rattle.kv_model.specs.Txns.{relates, operand_cmp}
use Rattle.range_view.specs.Replies.{kv_view}
use Rattle.live_keys.specs.declared.order.Placed.{Placed}
use Rattle.live_keys.specs.Fields.{field_of}
use Rattle.live_keys.specs.Orders.{AreOrdered}
use Rattle.live_keys.specs.Parts.{of_part}
use Rattle.live_keys.proofs.listed.differ_by.Goals as goal

pub returns : goal.returns
returns c = λ differs over h.
    let o = c.args.compare.now.operand in
    c.all_differ.ensures over
    (subst (λ (ps : List Placed). AreOrdered (field_of o) over ps) (sym c.deref.ensures.value)
    (subst (λ f. AreOrdered f over c.args.order.now.placed.items) c.requires h))
    ∙ ap (λ r. list_all (λ kv. relates r (operand_cmp o (kv_view kv))) (of_part c.args.part over)) (sym differs)
