use Rattle.std.proofs.Common.{◌≡◌, drop, map}
use Rattle.std.specs.List.{list_all}
use Rattle.kv_model.specs.Txns.{relates, operand_cmp}
use Rattle.range_view.specs.Replies.{kv_view}
use Rattle.live_keys.proofs.compare.holds_of_all.Given as goal

abbrev pub invariant-loop-kv : goal.invariant-loop-kv
invariant-loop-kv l =
    list_all (λ kv. relates l.compare.relation (operand_cmp l.compare.operand kv)) (map kv_view (drop l.kv-index l.kvs))
    ≡ list_all (λ kv. relates l.compare.relation (operand_cmp l.compare.operand kv)) (map kv_view l.kvs)
