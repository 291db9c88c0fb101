use Rattle.std.proofs.Common.{◌≡◌, ◌++◌, map, take, drop, true}
use Rattle.kv_model.specs.Ranges.{stripped}
use Rattle.range_view.specs.Replies.{kv_view}
use Rattle.shown_ranges.proofs.shown.clear_values.Given as goal

abbrev pub invariant-loop-kv : goal.invariant-loop-kv
invariant-loop-kv l = map kv_view l.kvs ≡ map (stripped true) (map kv_view (take l.kv-index l.fn.kvs)) ++ map kv_view (drop l.kv-index l.fn.kvs)
