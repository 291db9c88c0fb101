use Rattle.std.proofs.Common.{◌≡◌, ◌++◌, map, length}
use Rattle.txn_core.specs.Emptied.{put_keys, put_from}
use Rattle.txn_core.specs.Touching.{keys_put}
use Rattle.txn_core.specs.Views.{touch_view}
use Rattle.txn_core.proofs.emptied.touched_from.Given as goal

-- the keys that are listed, and those that are left, are those that are put
abbrev pub invariant-loop-version : goal.invariant-loop-version
invariant-loop-version l = keys_put (map touch_view l.touched.items) ++ put_keys l.versions ≡ put_from l.main l.tables.versions

abbrev pub decreases-loop-version : goal.decreases-loop-version
decreases-loop-version l = length l.versions
