use Rattle.std.proofs.Common.{◌≡◌, drop}
use Rattle.std.specs.List.{list_all}
use Rattle.live_keys.specs.Extremes.{passes}
use Rattle.live_keys.proofs.listed.all_of.Given as goal

abbrev pub invariant-loop-kv : goal.invariant-loop-kv
invariant-loop-kv l = list_all (passes l.compare) (drop l.kv-index l.kvs) ≡ list_all (passes l.compare) l.kvs
