use Rattle.std.proofs.Common.{◌≡◌, true, Bool, sym, ap, ◌∙◌, arith}
use Rattle.std.proofs.lemmas.List.{drop_all}
use Rattle.std.specs.List.{list_any}
use Rattle.kv_model.specs.declared.call.Operation.{Operation}
use Rattle.kv_model.specs.Commands.{op_view}
use Rattle.kv_model.specs.Txns.{touches}
use Rattle.txn_core.specs.Touching.{meets_more}
use Rattle.txn_core.specs.Views.{keys_view}
use Rattle.txn_core.proofs.Clashing.{row-by}
use Rattle.txn_core.proofs.Elements.{At, any-here}
use Rattle.txn_core.proofs.clash.row_collides.Goals as goal

pub returns-then-branch : goal.returns-then-branch
returns-then-branch c =
    let l = c.loop-operation in
    let all = keys_view c.in_ok-all.all.items in
    let here : At c.deref-operation-items.result.now
    = record { index = l.operation-index; value = c.operation-item.result; inside = omega arith; is = c.operation-item.is } in
    let meets : meets_more all (touches (op_view here.value)) ≡ true
    = ap (λ ks. meets_more (keys_view ks) (touches (op_view here.value))) (sym c.deref.ensures.value) ∙ sym c.in_ok-meets_more.ensures
    ∙ c.if-branch.true in
    any-here (λ (o : Operation). meets_more all (touches (op_view o))) c.deref-operation-items.result.now here meets
    ∙ l.invariant ∙ row-by all c.args.row.now.items c.in_ok-all.ensures.counts

pub returns : goal.returns
returns c =
    let l = c.loop-operation in
    let all = keys_view c.in_ok-all.all.items in
    let test : Operation → Bool = λ o. meets_more all (touches (op_view o)) in
    sym (ap (list_any test) (drop_all l.operation-index c.deref-operation-items.result.now c.loop-operation-test.false))
    ∙ l.invariant ∙ row-by all c.args.row.now.items c.in_ok-all.ensures.counts
