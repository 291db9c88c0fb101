use Rattle.std.proofs.Common.{◌≤◌, ◌+◌, min, drop, map}
use Rattle.gateway_text.specs.Rooms.{event_len, most_bytes, most_of_event, total}
use Rattle.gateway_text.proofs.watches.room_of_events.Given as goal

abbrev pub invariant-loop-event : goal.invariant-loop-event
invariant-loop-event l = record {
  most : l.room + total (map most_of_event (drop l.event-index l.events)) ≤ 256 + total (map most_of_event l.events);
  least : min (256 + total (map event_len l.events)) most_bytes ≤ l.room + total (map event_len (drop l.event-index l.events));
}
