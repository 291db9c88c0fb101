use Rattle.std.proofs.Common.{◌≡◌, ◌++◌, length, map}
use Rattle.json_gateway.specs.Runs.{event_view}
use Rattle.commands.specs.Lines.{are_events}
use Rattle.commands.specs.Replies.{events_among}
use Rattle.commands.specs.Script as script
use Rattle.commands.proofs.script.line_events.Given as goal

abbrev pub invariant-loop-rest : goal.invariant-loop-rest
invariant-loop-rest l = (events_among (script.line_events l.text) ≡ map event_view l.events.items ++ events_among (script.line_events l.rest))
    × (are_events (script.line_events l.text) ≡ l.are_events.items ++ are_events (script.line_events l.rest))

abbrev pub decreases-loop-rest : goal.decreases-loop-rest
decreases-loop-rest l = length l.rest
