use Rattle.std.proofs.Common.{◌≡◌, drop}
use Rattle.kv_model.specs.Commands.{ops_view}
use Rattle.kv_model.specs.Txns.{walk_fault}
use Rattle.txn_core.proofs.fault.+walk.Given as goal

abbrev pub invariant-row_fault-loop-operation : goal.invariant-row_fault-loop-operation
invariant-row_fault-loop-operation l = walk_fault l.depth (ops_view (drop l.operation-index l.operation-items))
    ≡ walk_fault l.depth (ops_view l.row.items)
