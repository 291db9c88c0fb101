use Rattle.std.proofs.Common.{◌≡◌, drop}
use Rattle.std.specs.List.{list_any}
use Rattle.kv_model.specs.Commands.{op_view}
use Rattle.kv_model.specs.Txns.{clashes}
use Rattle.txn_core.proofs.clash.+clash.Given as goal

abbrev pub invariant-row_clashes-loop-operation : goal.invariant-row_clashes-loop-operation
invariant-row_clashes-loop-operation l = list_any (λ o. clashes (op_view o)) (drop l.operation-index l.operation-items)
    ≡ list_any (λ o. clashes (op_view o)) l.row.items
