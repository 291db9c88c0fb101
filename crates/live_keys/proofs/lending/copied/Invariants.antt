use Rattle.std.proofs.Common.{◌≡◌, ◌++◌, drop}
use Rattle.live_keys.proofs.lending.copied.Given as goal

abbrev pub invariant-loop-kv : goal.invariant-loop-kv
invariant-loop-kv l = l.copy.items ++ drop l.kv-index l.kvs ≡ l.kvs
