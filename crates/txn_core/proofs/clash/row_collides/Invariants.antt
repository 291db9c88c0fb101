use Rattle.std.proofs.Common.{◌≡◌, drop}
use Rattle.std.specs.List.{list_any}
use Rattle.kv_model.specs.Commands.{op_view}
use Rattle.kv_model.specs.Txns.{touches}
use Rattle.txn_core.specs.Touching.{meets_more}
use Rattle.txn_core.specs.Views.{keys_view}
use Rattle.txn_core.proofs.clash.row_collides.Given as goal

abbrev pub invariant-loop-operation : goal.invariant-loop-operation
invariant-loop-operation l = list_any (λ o. meets_more (keys_view l.all.items) (touches (op_view o)))
    (drop l.operation-index l.operation-items) ≡ list_any (λ o. meets_more (keys_view l.all.items) (touches (op_view o))) l.row.items
