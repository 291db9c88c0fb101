-- The element at the index loses its value; the others are as they were.
use Rattle.std.proofs.Common.{refl, true, add-one, arith}
use Rattle.kv_model.specs.Ranges.{stripped}
use Rattle.range_view.specs.Replies.{kv_view}
use Rattle.range_view.proofs.Selecting.{changed-more}
use Rattle.shown_ranges.proofs.shown.clear_values.Goals as goal

pub loop-kv-preserved : goal.loop-kv-preserved
loop-kv-preserved c = rw add-one (changed-more kv_view (stripped true) c.loop-kv.kvs c.args.kvs.now c.loop-kv.kv-index _ _ (omega arith) c.loop-kv.invariant refl)
