use Rattle.std.proofs.Common.{◌≡◌, ◌++◌, map, drop}
use Rattle.kv_model.specs.Commands.{ops_view}
use Rattle.kv_model.specs.Txns.{touches}
use Rattle.txn_core.specs.Views.{touch_view}
use Rattle.txn_core.proofs.touched.+touch.Given as goal

abbrev pub invariant-push_row-loop-operation : goal.invariant-push_row-loop-operation
invariant-push_row-loop-operation l = map touch_view l.out.items ++ touches (ops_view (drop l.operation-index l.operation-items))
    ≡ map touch_view l.fn.out.items ++ touches (ops_view l.row.items)
