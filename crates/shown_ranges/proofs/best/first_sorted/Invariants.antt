use Rattle.std.proofs.Common.{◌≡◌, filter, take}
use Rattle.kv_model.specs.Ranges.{sorted_by}
use Rattle.shown_ranges.specs.Best.{asked_cmp}
use Rattle.shown_ranges.specs.Shown.{beyond, shows}
use Rattle.shown_ranges.proofs.best.first_sorted.Given as goal

-- they are the first few of those that were looked at
abbrev pub invariant-loop-kv : goal.invariant-loop-kv
invariant-loop-kv l = l.few.items ≡ beyond l.query.limit (sorted_by (asked_cmp l.query) (filter (shows l.query) (take l.kv-index l.kvs)))
