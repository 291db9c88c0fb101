use Rattle.std.proofs.Common.{◌≡◌, ◌⊎◌, drop, map, None}
use Rattle.kv_model.specs.Commands.{ops_view}
use Rattle.txn_core.specs.Planning.{at_once_in, path_in, versions_made_in, refusal_in, AreGone}
use Rattle.txn_core.specs.Steps.{in_row, step_view}
use Rattle.txn_core.proofs.planning.+run.Given as goal

-- the steps so far, and behind them the rest of the row, are the row; so are the versions made and the refusals; what is emptied is gone; once an
-- operation has run, nothing was refused at once; and the keys are the view's
abbrev pub invariant-run_row-loop-operation : goal.invariant-run_row-loop-operation
invariant-run_row-loop-operation l =
    (in_row (map step_view l.steps.items) (path_in l.view (ops_view (drop l.operation-index l.operation-items)))
    ≡ path_in l.view (ops_view l.row.items))
    × (versions_made_in l.view l.changes (path_in l.view (ops_view (drop l.operation-index l.operation-items)))
    ≡ versions_made_in l.view l.fn.changes (path_in l.view (ops_view l.row.items)))
    × (refusal_in l.view l.leases.leases (path_in l.view (ops_view (drop l.operation-index l.operation-items)))
    ≡ refusal_in l.view l.leases.leases (path_in l.view (ops_view l.row.items)))
    × AreGone l.view l.changes l.emptied.items
    × ((l.operation-index ≡ 0) ⊎ (at_once_in l.view l.leases.leases (ops_view l.row.items) ≡ None))
    × (l.keys ≡ l.view)
