use Rattle.std.proofs.Common.{◌≡◌, drop, map}
use Rattle.kv_model.specs.Ranges.{keys_of}
use Rattle.range_view.specs.Replies.{kv_view}
use Rattle.txn_core.specs.Planning.{with_graves}
use Rattle.txn_core.proofs.changes.Changes.delete.Given as goal

abbrev pub invariant-loop-kv : goal.invariant-loop-kv
invariant-loop-kv l = with_graves l.main l.self (keys_of (map kv_view (drop l.kv-index l.live)))
    ≡ with_graves l.main l.fn.self (keys_of (map kv_view l.live))
