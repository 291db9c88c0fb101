use Rattle.std.proofs.Common.{◌≡◌, ◌++◌, map, drop}
use Rattle.txn_core.specs.Touching.{keys_put}
use Rattle.txn_core.specs.Views.{touch_view, keys_view}
use Rattle.txn_core.proofs.keys.sorted_keys.Given as goal

abbrev pub invariant-loop-one : goal.invariant-loop-one
invariant-loop-one l = keys_view l.keys.items ++ keys_put (map touch_view (drop l.one-index l.touched))
    ≡ keys_put (map touch_view l.touched)
