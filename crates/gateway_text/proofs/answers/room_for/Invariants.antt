use Rattle.std.proofs.Common.{◌≤◌, ◌+◌, min, map, drop}
use Rattle.gateway_text.specs.Rooms.{kv_len, most_bytes, most_of_kvs, total}
use Rattle.gateway_text.proofs.answers.room_for.Given as goal

abbrev pub invariant-loop-kv : goal.invariant-loop-kv
invariant-loop-kv l = record {
  most : l.room + most_of_kvs (drop l.kv-index l.kvs) ≤ l.fn.frame + most_of_kvs l.kvs;
  least : min (l.fn.frame + total (map kv_len l.kvs)) most_bytes ≤ l.room + total (map kv_len (drop l.kv-index l.kvs));
}
