use Rattle.std.proofs.Common.{◌≤◌, ◌+◌, ◌*◌, min, drop, map}
use Rattle.gateway_text.specs.Rooms.{lease_len, most_bytes, total}
use Rattle.gateway_text.proofs.leases.room_for_leases.Given as goal

abbrev pub invariant-loop-lease : goal.invariant-loop-lease
invariant-loop-lease l = record {
  most : l.room ≤ 256 + 32 * l.lease-index;
  least : min (256 + total (map lease_len l.leases)) most_bytes ≤ l.room + total (map lease_len (drop l.lease-index l.leases));
}
