use Rattle.std.proofs.Common.{◌≡◌, sym, ◌∙◌, arith, rules}
use Rattle.txn_core.proofs.Walking.{own_fault, too_deep, own_first, success_first, failure_last, row_fault-here, row_fault-later}
use Rattle.txn_core.proofs.Walking.{row_fault-end, op_view-Range, op_view-Put, op_view-Delete, walk_fault-range, walk_fault-put}
use Rattle.txn_core.proofs.Walking.{walk_fault-delete}
use Rattle.txn_core.proofs.Elements.{At}
use Rattle.txn_core.proofs.fault.+walk.Goals as goal

pub txn_fault-returns-then-depth-ge-MOST_DEPTH : goal.txn_fault-returns-then-depth-ge-MOST_DEPTH
txn_fault-returns-then-depth-ge-MOST_DEPTH t c = too_deep c.args.depth c.args.txn.now c.if-depth-ge-MOST_DEPTH.true

pub txn_fault-returns-then-is_some : goal.txn_fault-returns-then-is_some
txn_fault-returns-then-is_some t c =
    let own : c.own_fault-own.result ≡ own_fault c.args.txn.now = search rules in
    own_first c.args.depth c.args.txn.now _ c.if-depth-ge-MOST_DEPTH.false own (sym c.is_some.ensures ∙ c.if-is_some.true)

pub txn_fault-returns-then-is_some-2 : goal.txn_fault-returns-then-is_some-2
txn_fault-returns-then-is_some-2 t c =
    let own : c.own_fault-own.result ≡ own_fault c.args.txn.now = search rules in
    success_first c.args.depth c.args.txn.now _ _ c.if-depth-ge-MOST_DEPTH.false own (sym c.is_some.ensures ∙ c.if-is_some.false)
    c.row_fault-success.ensures (sym c.is_some-2.ensures ∙ c.if-is_some-2.true)

pub txn_fault-returns : goal.txn_fault-returns
txn_fault-returns t c =
    let own : c.own_fault-own.result ≡ own_fault c.args.txn.now = search rules in
    failure_last c.args.depth c.args.txn.now _ _ _ c.if-depth-ge-MOST_DEPTH.false own (sym c.is_some.ensures ∙ c.if-is_some.false)
    c.row_fault-success.ensures (sym c.is_some-2.ensures ∙ c.if-is_some-2.false) c.row_fault.ensures

pub operation_fault-returns-in-Range : goal.operation_fault-returns-in-Range
operation_fault-returns-in-Range t c = search (rules, op_view-Range, walk_fault-range)

pub operation_fault-returns-in-Put : goal.operation_fault-returns-in-Put
operation_fault-returns-in-Put t c = search (rules, op_view-Put, walk_fault-put)

pub operation_fault-returns-in-Delete : goal.operation_fault-returns-in-Delete
operation_fault-returns-in-Delete t c = search (rules, op_view-Delete, walk_fault-delete)

pub row_fault-returns-then-is_some : goal.row_fault-returns-then-is_some
row_fault-returns-then-is_some t c =
    let l = c.loop-operation in
    let here : At c.deref-operation-items.result.now
    = record { index = l.operation-index; value = c.operation-item.result; inside = omega arith; is = c.operation-item.is } in
    row_fault-here c.args.depth c.deref-operation-items.result.now here _ c.operation_fault-fault.ensures
    (sym c.is_some.ensures ∙ c.if-is_some.true) ∙ l.invariant

pub row_fault-loop-operation-preserved : goal.row_fault-loop-operation-preserved
row_fault-loop-operation-preserved t c =
    let l = c.loop-operation in
    let here : At c.deref-operation-items.result.now
    = record { index = l.operation-index; value = c.operation-item.result; inside = omega arith; is = c.operation-item.is } in
    row_fault-later c.args.depth c.deref-operation-items.result.now here _ c.operation_fault-fault.ensures
    (sym c.is_some.ensures ∙ c.if-is_some.false) ∙ l.invariant

pub row_fault-returns : goal.row_fault-returns
row_fault-returns t c =
    row_fault-end c.args.depth c.deref-operation-items.result.now c.loop-operation.operation-index c.loop-operation-test.false
    ∙ c.loop-operation.invariant
