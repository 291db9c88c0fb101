-- What runs is the path, and makes what it makes.
use Rattle.std.proofs.Common.{◌≡◌, inr, sym, ◌∙◌, ap, subst, arith, map, drop, ◌+◌}
use Rattle.std.specs.Prelude.{IfOk, IfErr}
use Rattle.std.specs.List.{list_all}
use Rattle.kv_model.specs.declared.call.Txn.{out-Txn}
use Rattle.kv_model.specs.Calls.{then}
use Rattle.kv_model.specs.Commands.{op_view, ops_view}
use Rattle.kv_model.specs.History.{value_at}
use Rattle.kv_model.specs.Leases.{is_granted}
use Rattle.kv_model.specs.Ranges.{revision_refusal}
use Rattle.kv_model.specs.Txns.{holds}
use Rattle.txn_core.specs.KeyWrites.{held_refusal}
use Rattle.txn_core.specs.Planning.{made, refusal_of, IsRefusal, IsAtOnce, at_once_in, path_in, versions_made_in, refusal_in}
use Rattle.txn_core.specs.Steps.{in_row, step_view, steps_view}
use Rattle.txn_core.proofs.AtOnce.{of-delete, of-inner, of-put, of-range, past, told-fault, told-none, told-one, told-row, told-txn, txn-late}
use Rattle.txn_core.proofs.Running.{refused-as, refused-by, refused-first, none-first, path-range, path-put, path-delete, path-inner, refused-inner, branch_of, ran}
use Rattle.txn_core.proofs.Running.{not_run, row-split, row-end, in_row-more}
use Rattle.txn_core.proofs.Elements.{At}
use Rattle.txn_core.proofs.Buried.{gone-still}
use Rattle.txn_core.proofs.Stepping.{step_view-Range, step_view-Put, step_view-Delete, step_view-Inner}
use Rattle.txn_core.proofs.planning.+run.Goals as goal
use Rattle.txn_core.proofs.planning.+run.Goals.{run_txn-then-succeeded, run_txn-else-succeeded}

-- ---- a Range

pub run_operation-returns-in-Ok-clause-path : goal.run_operation-returns-in-Ok-clause-path
run_operation-returns-in-Ok-clause-path t c = λ rest.
    let v = c.args.view.now in
    ap (λ o. path_in v (then (op_view o) rest)) c.in-Range.is ∙ path-range v c.in-Range.query rest
    ∙ sym (step_view-Range _ (path_in v rest))

pub run_operation-returns-in-Ok-clause-made : goal.run_operation-returns-in-Ok-clause-made
unfolding made
run_operation-returns-in-Ok-clause-made t c = λ rest. ap (versions_made_in c.args.view.now c.args.changes.now) (step_view-Range _ rest)

pub run_operation-returns-in-Ok-clause-fine : goal.run_operation-returns-in-Ok-clause-fine
unfolding refusal_of
run_operation-returns-in-Ok-clause-fine t c = λ rest.
    let v = c.args.view.now in
    let ls = c.args.leases.now.leases in
    ap (refusal_in v ls) (step_view-Range _ rest) ∙ none-first (revision_refusal v.compacted v.revision c.in-Range.query.revision)
    (refusal_in v ls rest) c.in-Ok.ensures.fine

pub run_operation-returns-in-Err-clause-refused : goal.run_operation-returns-in-Err-clause-refused
unfolding refusal_of
run_operation-returns-in-Err-clause-refused t c = λ rest.
    let v = c.args.view.now in
    let ls = c.args.leases.now.leases in
    subst (λ q. IsRefusal c.in-Err.refusal (refusal_in v ls q))
    (sym (ap (λ o. path_in v (then (op_view o) rest)) c.in-Range.is ∙ path-range v c.in-Range.query rest))
    (refused-first c.in-Err.refusal (revision_refusal v.compacted v.revision c.in-Range.query.revision)
    (refusal_in v ls (path_in v rest)) (refused-as c.in-Err.refusal _ c.in-Err.ensures.refused))

pub run_operation-returns-in-Err-clause-first : goal.run_operation-returns-in-Err-clause-first
run_operation-returns-in-Err-clause-first t c = λ rest.
    let v = c.args.view.now in
    let ls = c.args.leases.now.leases in
    let e = c.in-Err.refusal in
    subst (IsAtOnce e) (sym (ap (λ o. at_once_in v ls (then (op_view o) rest)) c.in-Range.is ∙ of-range v ls c.in-Range.query rest))
    (told-one e _ c.in-Err.ensures.refused)

-- ---- a put

pub run_operation-returns-in-Ok-run_put-clause-path : goal.run_operation-returns-in-Ok-run_put-clause-path
run_operation-returns-in-Ok-run_put-clause-path t c = λ rest.
    let v = c.args.view.now in
    ap (λ o. path_in v (then (op_view o) rest)) c.in-Put.is ∙ path-put v c.in-Put.request rest ∙ sym (step_view-Put _ (path_in v rest))

pub run_operation-returns-in-Ok-run_put-clause-made : goal.run_operation-returns-in-Ok-run_put-clause-made
unfolding made
run_operation-returns-in-Ok-run_put-clause-made t c = λ rest.
    let v = c.args.view.now in
    ap (versions_made_in v c.args.changes.now) (step_view-Put _ rest) ∙ ap (λ ws. versions_made_in v ws rest) (sym c.in-Ok-run_put.ensures.made)

pub run_operation-returns-in-Ok-run_put-clause-fine : goal.run_operation-returns-in-Ok-run_put-clause-fine
unfolding refusal_of
run_operation-returns-in-Ok-run_put-clause-fine t c = λ rest.
    let v = c.args.view.now in
    let ls = c.args.leases.now.leases in
    let p = c.in-Put.request in
    ap (refusal_in v ls) (step_view-Put _ rest) ∙ none-first (held_refusal (is_granted ls) p (value_at v.versions v.place p.key))
    (refusal_in v ls rest) c.in-Ok-run_put.ensures.fine

pub run_operation-returns-in-Ok-run_put-clause-emptied : goal.run_operation-returns-in-Ok-run_put-clause-emptied
run_operation-returns-in-Ok-run_put-clause-emptied t c = gone-still c.args.view.now c.args.changes.now _ _ c.args.emptied.now.items
    c.in-Ok-run_put.ensures.made c.requires.emptied

pub run_operation-returns-in-Err-run_put-clause-refused : goal.run_operation-returns-in-Err-run_put-clause-refused
unfolding refusal_of
run_operation-returns-in-Err-run_put-clause-refused t c = λ rest.
    let v = c.args.view.now in
    let ls = c.args.leases.now.leases in
    let p = c.in-Put.request in
    subst (λ q. IsRefusal c.in-Err-run_put.refusal (refusal_in v ls q))
    (sym (ap (λ o. path_in v (then (op_view o) rest)) c.in-Put.is ∙ path-put v p rest))
    (refused-first c.in-Err-run_put.refusal (held_refusal (is_granted ls) p (value_at v.versions v.place p.key))
    (refusal_in v ls (path_in v rest)) (refused-by c.in-Err-run_put.refusal _ c.in-Err-run_put.ensures.refused))

pub run_operation-returns-in-Err-run_put-clause-first : goal.run_operation-returns-in-Err-run_put-clause-first
run_operation-returns-in-Err-run_put-clause-first t c = λ rest.
    let v = c.args.view.now in
    let ls = c.args.leases.now.leases in
    let e = c.in-Err-run_put.refusal in
    subst (IsAtOnce e) (sym (ap (λ o. at_once_in v ls (then (op_view o) rest)) c.in-Put.is ∙ of-put v ls c.in-Put.request rest))
    (told-fault e _ c.in-Err-run_put.ensures.refused)

-- ---- a delete

pub run_operation-returns-in-Ok-run_delete-clause-path : goal.run_operation-returns-in-Ok-run_delete-clause-path
run_operation-returns-in-Ok-run_delete-clause-path t c = λ rest.
    let v = c.args.view.now in
    ap (λ o. path_in v (then (op_view o) rest)) c.in-Delete.is ∙ path-delete v c.in-Delete.request rest
    ∙ sym (step_view-Delete _ (path_in v rest))

pub run_operation-returns-in-Ok-run_delete-clause-made : goal.run_operation-returns-in-Ok-run_delete-clause-made
unfolding made
run_operation-returns-in-Ok-run_delete-clause-made t c = λ rest.
    let v = c.args.view.now in
    ap (versions_made_in v c.args.changes.now) (step_view-Delete _ rest) ∙ ap (λ ws. versions_made_in v ws rest) (sym c.in-Ok-run_delete.ensures.made)

pub run_operation-returns-in-Ok-run_delete-clause-fine : goal.run_operation-returns-in-Ok-run_delete-clause-fine
unfolding refusal_of
run_operation-returns-in-Ok-run_delete-clause-fine t c = λ rest. ap (refusal_in c.args.view.now c.args.leases.now.leases)
    (step_view-Delete _ rest)

pub run_operation-returns-in-Err-run_delete-clause-first : goal.run_operation-returns-in-Err-run_delete-clause-first
run_operation-returns-in-Err-run_delete-clause-first t c = λ rest.
    let v = c.args.view.now in
    let ls = c.args.leases.now.leases in
    told-none _ _ (ap (λ o. at_once_in v ls (then (op_view o) rest)) c.in-Delete.is ∙ of-delete v ls c.in-Delete.request rest)

-- ---- a transaction within

pub run_operation-returns-in-Ok-run_txn-clause-path : goal.run_operation-returns-in-Ok-run_txn-clause-path
run_operation-returns-in-Ok-run_txn-clause-path t c = λ rest.
    let v = c.args.view.now in
    let b = c.in-Ok-run_txn.field-0 in
    ap (λ o. path_in v (then (op_view o) rest)) c.in-Inner.is
    ∙ path-inner v c.in-Inner.txn b.succeeded (steps_view b.steps.items) c.in-Ok-run_txn.ensures.path rest
    ∙ sym (step_view-Inner b.succeeded b.steps (path_in v rest))

pub run_operation-returns-in-Ok-run_txn-clause-made : goal.run_operation-returns-in-Ok-run_txn-clause-made
unfolding made
run_operation-returns-in-Ok-run_txn-clause-made t c = λ rest.
    let v = c.args.view.now in
    let b = c.in-Ok-run_txn.field-0 in
    ap (versions_made_in v c.args.changes.now) (step_view-Inner b.succeeded b.steps rest)
    ∙ ap (λ ws. versions_made_in v ws rest) (sym c.in-Ok-run_txn.ensures.made)

pub run_operation-returns-in-Ok-run_txn-clause-fine : goal.run_operation-returns-in-Ok-run_txn-clause-fine
unfolding refusal_of
run_operation-returns-in-Ok-run_txn-clause-fine t c = λ rest.
    let v = c.args.view.now in
    let ls = c.args.leases.now.leases in
    let b = c.in-Ok-run_txn.field-0 in
    ap (refusal_in v ls) (step_view-Inner b.succeeded b.steps rest)
    ∙ none-first (refusal_in v ls (steps_view b.steps.items)) (refusal_in v ls rest) c.in-Ok-run_txn.ensures.fine

pub run_operation-returns-in-Err-run_txn-clause-refused : goal.run_operation-returns-in-Err-run_txn-clause-refused
run_operation-returns-in-Err-run_txn-clause-refused t c = λ rest.
    let v = c.args.view.now in
    let ls = c.args.leases.now.leases in
    let e = c.in-Err-run_txn.refusal in
    subst (λ o. IsRefusal e (refusal_in v ls (path_in v (then (op_view o) rest)))) (sym c.in-Inner.is)
    (refused-inner v ls e c.in-Inner.txn c.in-Err-run_txn.ensures.refused rest)

pub run_operation-returns-in-Err-run_txn-clause-first : goal.run_operation-returns-in-Err-run_txn-clause-first
run_operation-returns-in-Err-run_txn-clause-first t c = λ rest.
    let v = c.args.view.now in
    let ls = c.args.leases.now.leases in
    subst (IsAtOnce c.in-Err-run_txn.refusal)
    (sym (ap (λ o. at_once_in v ls (then (op_view o) rest)) c.in-Inner.is ∙ of-inner v ls c.in-Inner.txn rest)) c.in-Err-run_txn.ensures.first

-- ---- a transaction

pub run_txn-returns-in_default-clause-first : goal.run_txn-returns-in_default-clause-first
run_txn-returns-in_default-clause-first t c =
    txn-late c.args.view.now c.args.leases.now.leases c.args.txn.now _ (λ none. c.in_default.ensures.free (c.deref.ensures.value ∙ none))

pub run_txn-returns-in-Ok-ran-clause-path : goal.run_txn-returns-in-Ok-ran-clause-path
run_txn-returns-in-Ok-ran-clause-path t c =
    let v = c.args.view.now in
    let txn = c.args.txn.now in
    let chosen : c.in-Ok.succeeded ≡ list_all (holds v.versions v.revision) (out-Txn txn).compare.items
    = c.in-Ok.ensures.hold ∙ ap (list_all (holds v.versions v.revision)) c.deref.ensures.value in
    let held : IfOk c.if-succeeded.ran (λ s. steps_view s.items ≡ path_in v (branch_of txn c.in-Ok.succeeded))
    = elim c.if-succeeded.branch [
      | run_txn-then-succeeded w ↦ rw (w.ran-is, w.if-succeeded.true) w.run_row-ran.ensures.path
      | run_txn-else-succeeded w ↦ rw (w.ran-is, w.if-succeeded.false) w.run_row-ran-else-succeeded.ensures.path
    ] in
    ran v txn c.in-Ok.succeeded _ chosen (rw c.in-Ok-ran.is at held)

pub run_txn-returns-in-Err-clause-refused : goal.run_txn-returns-in-Err-clause-refused
run_txn-returns-in-Err-clause-refused t c =
    let v = c.args.view.now in
    let ls = c.args.leases.now.leases in
    let txn = c.args.txn.now in
    let chosen : c.in-Ok.succeeded ≡ list_all (holds v.versions v.revision) (out-Txn txn).compare.items
    = c.in-Ok.ensures.hold ∙ ap (list_all (holds v.versions v.revision)) c.deref.ensures.value in
    let held : IfErr c.if-succeeded.ran (λ e. IsRefusal e (refusal_in v ls (path_in v (branch_of txn c.in-Ok.succeeded))))
    = elim c.if-succeeded.branch [
      | run_txn-then-succeeded w ↦ rw (w.ran-is, w.if-succeeded.true) w.run_row-ran.ensures.refused
      | run_txn-else-succeeded w ↦ rw (w.ran-is, w.if-succeeded.false) w.run_row-ran-else-succeeded.ensures.refused
    ] in
    not_run v ls txn c.in-Ok.succeeded c.in-Err.refusal chosen (rw c.in-Err.is at held)

pub run_txn-returns-in-Err-clause-first : goal.run_txn-returns-in-Err-clause-first
run_txn-returns-in-Err-clause-first t c =
    let v = c.args.view.now in
    let ls = c.args.leases.now.leases in
    let txn = c.args.txn.now in
    let chosen : c.in-Ok.succeeded ≡ list_all (holds v.versions v.revision) (out-Txn txn).compare.items
    = c.in-Ok.ensures.hold ∙ ap (list_all (holds v.versions v.revision)) c.deref.ensures.value in
    let told : IfErr c.if-succeeded.ran (λ e. IsAtOnce e (at_once_in v ls (branch_of txn c.in-Ok.succeeded)))
    = elim c.if-succeeded.branch [
      | run_txn-then-succeeded w ↦ rw (w.ran-is, w.if-succeeded.true) w.run_row-ran.ensures.first
      | run_txn-else-succeeded w ↦ rw (w.ran-is, w.if-succeeded.false) w.run_row-ran-else-succeeded.ensures.first
    ] in
    told-txn v ls txn c.in-Ok.succeeded c.in-Err.refusal chosen (rw c.in-Err.is at told)

-- ---- a row

pub run_row-loop-operation-preserved : goal.run_row-loop-operation-preserved
run_row-loop-operation-preserved t c =
    let v = c.args.view.now in
    let ls = c.args.leases.now.leases in
    let l = c.loop-operation in
    let os = c.deref-operation-items.result.now in
    let here : At os
    = record { index = l.operation-index; value = c.operation-item.result; inside = omega arith; is = c.operation-item.is } in
    let rest = ops_view (drop (l.operation-index + 1) os) in
    let stepped = ap (path_in v) (row-split os here) ∙ c.in-Ok.ensures.path rest in (
      ap (λ ss. in_row (map step_view ss) (path_in v rest)) c.in-Ok-push.ensures.items
          ∙ in_row-more l.steps.items c.in-Ok.step (path_in v rest)
          ∙ ap (in_row (map step_view l.steps.items)) (sym stepped) ∙ l.invariant.0,
      sym (c.in-Ok.ensures.made (path_in v rest)) ∙ ap (versions_made_in v l.changes) (sym stepped) ∙ l.invariant.1,
      sym (c.in-Ok.ensures.fine (path_in v rest)) ∙ ap (refusal_in v ls) (sym stepped) ∙ l.invariant.2,
      c.in-Ok.ensures.emptied,
      inr (past v ls os c.args.row.now.items here c.in-Ok.step c.deref-operation-items.ensures.value c.in-Ok.ensures.path c.in-Ok.ensures.fine
          l.invariant.4),
      c.in-Ok.ensures.keys,
    )

pub run_row-returns-in-Err-clause-first : goal.run_row-returns-in-Err-clause-first
run_row-returns-in-Err-clause-first t c =
    let l = c.loop-operation in
    let os = c.deref-operation-items.result.now in
    let here : At os
    = record { index = l.operation-index; value = c.operation-item.result; inside = omega arith; is = c.operation-item.is } in
    told-row c.args.view.now c.args.leases.now.leases os c.args.row.now.items here c.in-Err.refusal c.deref-operation-items.ensures.value
    c.in-Err.ensures.first l.invariant.4

pub run_row-returns-in-Err-push-clause-first : goal.run_row-returns-in-Err-push-clause-first
run_row-returns-in-Err-push-clause-first t c =
    let l = c.loop-operation in
    let os = c.deref-operation-items.result.now in
    let here : At os
    = record { index = l.operation-index; value = c.operation-item.result; inside = omega arith; is = c.operation-item.is } in
    told-none _ _ (past c.args.view.now c.args.leases.now.leases os c.args.row.now.items here c.in-Ok.step
    c.deref-operation-items.ensures.value c.in-Ok.ensures.path c.in-Ok.ensures.fine l.invariant.4)

pub run_row-returns-clause-path : goal.run_row-returns-clause-path
run_row-returns-clause-path t c =
    let v = c.args.view.now in
    let l = c.loop-operation in
    ap (in_row (map step_view l.steps.items))
    (sym (row-end v c.deref-operation-items.result.now l.operation-index c.loop-operation-test.false)) ∙ l.invariant.0

pub run_row-returns-clause-made : goal.run_row-returns-clause-made
unfolding made
run_row-returns-clause-made t c =
    let v = c.args.view.now in
    let l = c.loop-operation in
    let ended = row-end v c.deref-operation-items.result.now l.operation-index c.loop-operation-test.false in
    ap (versions_made_in v l.changes) (sym ended) ∙ l.invariant.1
    ∙ ap (versions_made_in v c.args.changes.now) (sym (ap (in_row (map step_view l.steps.items)) (sym ended) ∙ l.invariant.0))

pub run_row-returns-clause-fine : goal.run_row-returns-clause-fine
unfolding refusal_of
run_row-returns-clause-fine t c =
    let v = c.args.view.now in
    let ls = c.args.leases.now.leases in
    let l = c.loop-operation in
    let ended = row-end v c.deref-operation-items.result.now l.operation-index c.loop-operation-test.false in
    ap (refusal_in v ls) (ap (in_row (map step_view l.steps.items)) (sym ended) ∙ l.invariant.0) ∙ sym l.invariant.2
    ∙ ap (refusal_in v ls) ended
