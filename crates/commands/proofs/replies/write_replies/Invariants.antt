use Rattle.std.proofs.Common.{◌≡◌, ℕ, List, ◌++◌, map, drop}
use Rattle.std.specs.Io.KnownBytes.{Appends}
use Rattle.json_gateway.specs.Runs.{event_view}
use Rattle.commands.specs.Said.{bytes_of, outcomes_from, replies_said, texts_from}
use Rattle.commands.proofs.replies.write_replies.Given as goal

abbrev pub invariant-loop-is_event : goal.invariant-loop-is_event
invariant-loop-is_event g l = (front : List ℕ) × Appends (g.W.Write.contents l.fn.w) (g.W.Write.contents l.w) front
    × (replies_said l.lines.are_events.items (map event_view l.lines.events.items) l.said.outcomes.items (map bytes_of l.said.texts.items)
    ≡ front ++ replies_said (drop l.is_event-index l.lines.are_events.items) (map event_view (drop l.place.event l.lines.events.items))
    (outcomes_from l.said l.place) (texts_from l.said l.place))
