use Rattle.std.proofs.Common.{◌≤◌, ◌+◌, min, drop, map}
use Rattle.gateway_text.specs.Rooms.{key_len, most_bytes, most_of_key, total}
use Rattle.gateway_text.proofs.leases.room_for_keys.Given as goal

abbrev pub invariant-loop-key : goal.invariant-loop-key
invariant-loop-key l = record {
  most : l.room + total (map (λ k. most_of_key k.now) (drop l.key-index l.keys)) ≤ 256 + total (map (λ k. most_of_key k.now) l.keys);
  least : min (256 + total (map (λ k. key_len k.now) l.keys)) most_bytes ≤ l.room + total (map (λ k. key_len k.now) (drop l.key-index l.keys));
}
