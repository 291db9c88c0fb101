use Rattle.std.proofs.Common.{◌≡◌, ◌++◌, length, drop}
use Rattle.live_keys.specs.Orders.{placed_from}
use Rattle.live_keys.proofs.order.placed_of.Given as goal

-- those so far, and behind them those that are left, are all
abbrev pub invariant-loop-kv : goal.invariant-loop-kv
invariant-loop-kv l = l.placed.items ++ placed_from (length l.placed.items) (drop l.kv-index l.kvs) ≡ placed_from 0 l.kvs
