use Rattle.std.proofs.Common.{◌-◌, ◌∙◌, ap, map, refl, arith, rules}
use Rattle.std.proofs.lemmas.List.{map-append}
use Rattle.gateway_read.specs.Values.{view}
use Rattle.kv_model.specs.Commands.{op_view}
use Rattle.kv_model.specs.Requests as requests
use Rattle.kv_model.specs.declared.call.Operation.{the_lemmas}
use Rattle.gateway_read.specs.Fields.{snake_of}
use Rattle.gateway_read.specs.Objects.{seen}
use Rattle.gateway_read.proofs.Transactions.{op_view-Range, op_view-Put, op_view-Delete, op_view-Inner, by_kind, not_nested, nested}
use Rattle.gateway_read.proofs.Each.{each_none, each_more, each_fails, each_done}
use Rattle.gateway_read.proofs.Steps.{fails_then, gives_fault}
use Rattle.gateway_read.proofs.transacting.+transacting.Goals as goal

pub txn_within-returns-then-depth-eq0 : goal.txn_within-returns-then-depth-eq0
txn_within-returns-then-depth-eq0 t c = not_nested c.args.depth _ c.if-depth-eq0.true

pub txn_within-returns-in_err-compare : goal.txn_within-returns-in_err-compare
txn_within-returns-in_err-compare t c =
    rw (nested c.args.depth (c.args.depth - 1) (seen c.args.object.now) (omega (arith, c.if-depth-eq0.false))) (search rules)

pub txn_within-returns-in_err-success : goal.txn_within-returns-in_err-success
unfolding snake_of
txn_within-returns-in_err-success t c =
    rw (nested c.args.depth (c.args.depth - 1) (seen c.args.object.now) (omega (arith, c.if-depth-eq0.false))) (search rules)

pub txn_within-returns-in_err-failure : goal.txn_within-returns-in_err-failure
unfolding snake_of
txn_within-returns-in_err-failure t c =
    rw (nested c.args.depth (c.args.depth - 1) (seen c.args.object.now) (omega (arith, c.if-depth-eq0.false))) (search rules)

pub txn_within-returns : goal.txn_within-returns
unfolding snake_of
txn_within-returns t c = rw (nested c.args.depth (c.args.depth - 1) (seen c.args.object.now) (omega (arith, c.if-depth-eq0.false)))
    (search (rules, the_lemmas))

pub operation-returns-in_err-object : goal.operation-returns-in_err-object
operation-returns-in_err-object t c = rw (by_kind (requests.txn_request c.args.depth) (snake_of c.args.list) (view c.args.value.now))
    (search rules)

pub operation-returns-in_err-range_query-in-Range : goal.operation-returns-in_err-range_query-in-Range
operation-returns-in_err-range_query-in-Range t c =
    rw (by_kind (requests.txn_request c.args.depth) (snake_of c.args.list) (view c.args.value.now)) (search rules)

pub operation-returns-in_err-put_request-in-Put : goal.operation-returns-in_err-put_request-in-Put
operation-returns-in_err-put_request-in-Put t c =
    rw (by_kind (requests.txn_request c.args.depth) (snake_of c.args.list) (view c.args.value.now)) (search rules)

pub operation-returns-in_err-delete_request-in-Delete : goal.operation-returns-in_err-delete_request-in-Delete
operation-returns-in_err-delete_request-in-Delete t c =
    rw (by_kind (requests.txn_request c.args.depth) (snake_of c.args.list) (view c.args.value.now)) (search rules)

pub operation-returns-in_err-txn_within-in-Inner : goal.operation-returns-in_err-txn_within-in-Inner
operation-returns-in_err-txn_within-in-Inner t c =
    rw (by_kind (requests.txn_request c.args.depth) (snake_of c.args.list) (view c.args.value.now)) (search rules)

pub operation-returns-in_ok-range_query-in-Range : goal.operation-returns-in_ok-range_query-in-Range
operation-returns-in_ok-range_query-in-Range t c =
    rw (by_kind (requests.txn_request c.args.depth) (snake_of c.args.list) (view c.args.value.now)) (search (rules, op_view-Range))

pub operation-returns-in_ok-put_request-in-Put : goal.operation-returns-in_ok-put_request-in-Put
operation-returns-in_ok-put_request-in-Put t c =
    rw (by_kind (requests.txn_request c.args.depth) (snake_of c.args.list) (view c.args.value.now)) (search (rules, op_view-Put))

pub operation-returns-in_ok-delete_request-in-Delete : goal.operation-returns-in_ok-delete_request-in-Delete
operation-returns-in_ok-delete_request-in-Delete t c =
    rw (by_kind (requests.txn_request c.args.depth) (snake_of c.args.list) (view c.args.value.now)) (search (rules, op_view-Delete))

pub operation-returns-in_ok-txn_within-in-Inner : goal.operation-returns-in_ok-txn_within-in-Inner
operation-returns-in_ok-txn_within-in-Inner t c =
    rw (by_kind (requests.txn_request c.args.depth) (snake_of c.args.list) (view c.args.value.now)) (search (rules, op_view-Inner))

pub operations-loop-value-init : goal.operations-loop-value-init
operations-loop-value-init t c = each_none _ _ (ap (map op_view) c.in_ok-operations.ensures.items)

pub operations-loop-value-preserved : goal.operations-loop-value-preserved
operations-loop-value-preserved t c =
    each_more (requests.operation (requests.txn_request c.args.depth) (snake_of c.args.list)) c.args.values.now
    c.loop-value.value-index _ _ _ _ _ _ (omega arith) c.value-item.is c.in_ok-operation.ensures
    (ap (map op_view) c.in_ok-push.ensures.items ∙ map-append op_view c.loop-value.operations.items _) c.loop-value.invariant

pub operations-returns-in_err-operation : goal.operations-returns-in_err-operation
operations-returns-in_err-operation t c =
    gives_fault _ c.from_residual-in_err-operation.result _ _ c.from_residual-in_err-operation.ensures.1
    (fails_then _ _ _ (each_fails (requests.operation (requests.txn_request c.args.depth) (snake_of c.args.list)) c.args.values.now
    c.loop-value.value-index _ _ _ _ _ (omega arith) c.value-item.is
    c.in_err-operation.ensures c.loop-value.invariant))

pub operations-returns : goal.operations-returns
operations-returns t c =
    rw (each_done (requests.operation (requests.txn_request c.args.depth) (snake_of c.args.list)) c.args.values.now c.loop-value.value-index
    _ _ (omega arith) c.loop-value.invariant) refl
