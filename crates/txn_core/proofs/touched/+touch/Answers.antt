use Rattle.std.proofs.Common.{◌++◌, ◌+◌, map, drop, sym, ap, ◌∙◌, append_assoc, arith}
use Rattle.kv_model.specs.Commands.{op_view, ops_view}
use Rattle.kv_model.specs.Txns.{touches}
use Rattle.txn_core.specs.Views.{touch_view}
use Rattle.txn_core.proofs.Clashing.{touches-step}
use Rattle.txn_core.proofs.Elements.{At}
use Rattle.txn_core.proofs.touched.+touch.Goals as goal

pub push_row-loop-operation-preserved : goal.push_row-loop-operation-preserved
push_row-loop-operation-preserved t c =
    let l = c.loop-operation in
    let items = c.deref-operation-items.result.now in
    let here : At items
    = record { index = l.operation-index; value = c.operation-item.result; inside = omega arith; is = c.operation-item.is } in
    let rest = touches (ops_view (drop (here.index + 1) items)) in
    ap (λ ts. ts ++ rest) c.in_ok-push_operation.ensures
    ∙ append_assoc (map touch_view l.out.items) (touches (op_view here.value)) rest
    ∙ ap (λ ts. map touch_view l.out.items ++ ts) (sym (touches-step items here))
    ∙ l.invariant
