use Rattle.std.proofs.Common.{◌≡◌, IfOk, Bool, sym, ap, subst, ◌∙◌, arith, rules}
use Rattle.std.proofs.lemmas.List.{drop_all}
use Rattle.std.specs.List.{list_any}
use Rattle.kv_model.specs.declared.call.Operation.{Operation}
use Rattle.kv_model.specs.Commands.{op_view}
use Rattle.kv_model.specs.Txns.{clashes}
use Rattle.txn_core.proofs.Clashing.{clashes-range, clashes-put, clashes-delete, clash-collide, clash-inner, txn-first, txn-second}
use Rattle.txn_core.proofs.Elements.{At, any-here}
use Rattle.txn_core.proofs.clash.+clash.Goals as goal

pub operation_clashes-returns-in-Range : goal.operation_clashes-returns-in-Range
operation_clashes-returns-in-Range t c = search (rules, clashes-range)

pub operation_clashes-returns-in-Put : goal.operation_clashes-returns-in-Put
operation_clashes-returns-in-Put t c = search (rules, clashes-put)

pub operation_clashes-returns-in-Delete : goal.operation_clashes-returns-in-Delete
operation_clashes-returns-in-Delete t c = search (rules, clashes-delete)

pub row_clashes-returns-then-branch : goal.row_clashes-returns-then-branch
row_clashes-returns-then-branch t c =
    clash-collide c.args.row.now.items c.in_ok-row_collides.field-0 c.in_ok-row_collides.ensures c.if-branch.true

pub row_clashes-returns-then-branch-2 : goal.row_clashes-returns-then-branch-2
row_clashes-returns-then-branch-2 t c =
    let l = c.loop-operation in
    let here : At c.deref-operation-items.result.now
    = record { index = l.operation-index; value = c.operation-item.result; inside = omega arith; is = c.operation-item.is } in
    clash-inner c.args.row.now.items c.in_ok-row_collides.field-0 _ c.in_ok-row_collides.ensures c.if-branch.false
    (any-here (λ (o : Operation). clashes (op_view o)) c.deref-operation-items.result.now here
    (sym c.in_ok-operation_clashes.ensures ∙ c.if-branch-2.true) ∙ l.invariant)

pub row_clashes-returns : goal.row_clashes-returns
row_clashes-returns t c =
    let l = c.loop-operation in
    let test : Operation → Bool = λ o. clashes (op_view o) in
    clash-inner c.args.row.now.items c.in_ok-row_collides.field-0 _ c.in_ok-row_collides.ensures c.if-branch.false
    (sym (ap (list_any test) (drop_all l.operation-index c.deref-operation-items.result.now c.loop-operation-test.false)) ∙ l.invariant)

pub clashes-returns-then-branch : goal.clashes-returns-then-branch
clashes-returns-then-branch t c = txn-first c.args.txn.now c.in_ok-row_clashes.field-0 c.in_ok-row_clashes.ensures c.if-branch.true

pub clashes-returns : goal.clashes-returns
clashes-returns t c = subst (λ (z : Bool). IfOk c.row_clashes-2.result (λ b. b ≡ z))
    (txn-second c.args.txn.now c.in_ok-row_clashes.field-0 c.in_ok-row_clashes.ensures c.if-branch.false) c.row_clashes-2.ensures
