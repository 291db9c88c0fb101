use Rattle.std.proofs.Common.{◌≡◌, ◌++◌, drop, filter}
use Rattle.shown_ranges.specs.Shown.{shows}
use Rattle.shown_ranges.proofs.shown.all_shown.Given as goal

-- those so far, and behind them those of the rest, are all
abbrev pub invariant-loop-kv : goal.invariant-loop-kv
invariant-loop-kv l = l.shown.items ++ filter (shows l.query) (drop l.kv-index l.kvs) ≡ filter (shows l.query) l.kvs
