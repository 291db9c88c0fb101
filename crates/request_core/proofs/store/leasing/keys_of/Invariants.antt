use Rattle.std.proofs.Common.{◌≡◌, take, map}
use Rattle.kv_model.specs.Ranges as ranges
use Rattle.range_view.specs.Replies.{kv_view}
use Rattle.request_core.proofs.store.leasing.keys_of.Given as goal

abbrev pub invariant-loop-kv : goal.invariant-loop-kv
invariant-loop-kv l = map (λ k. k.now) l.keys.items ≡ ranges.keys_of (map kv_view (take l.kv-index l.kvs))
