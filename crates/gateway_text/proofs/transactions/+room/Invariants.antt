use Rattle.std.proofs.Common.{◌≤◌, ◌+◌, min, drop, map}
use Rattle.gateway_text.specs.Lengths.{response_len}
use Rattle.gateway_text.specs.Rooms.{most_bytes, most_of_reply, total}
use Rattle.gateway_text.proofs.transactions.+room.Given as goal

abbrev pub invariant-room_of_all-loop-reply : goal.invariant-room_of_all-loop-reply
invariant-room_of_all-loop-reply l = record {
  most : l.room + total (map most_of_reply (drop l.reply-index l.replies)) ≤ l.frame + total (map most_of_reply l.replies);
  least : min (l.frame + total (map (response_len l.revision) l.replies)) most_bytes
      ≤ l.room + total (map (response_len l.revision) (drop l.reply-index l.replies));
}
