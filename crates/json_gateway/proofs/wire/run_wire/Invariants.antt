use Rattle.std.proofs.Common.{◌≡◌, ◌≤◌, length, drop, map, vec_len, vec_capacity}
use Rattle.std.specs.List.{AllByRecursion}
use Rattle.json_gateway.specs.Runs.{IsBareIn, event_view, outcome_view}
use Rattle.json_gateway.proofs.Events.{RunsOn}
use Rattle.json_gateway.proofs.wire.run_wire.Given as goal

-- there is room for every outcome, the run so far goes on, and what was not accepted tells nothing
abbrev pub invariant-loop-event : goal.invariant-loop-event
invariant-loop-event l = record {
  room : length l.events ≤ vec_capacity l.outcomes;
  count : vec_len l.outcomes ≡ l.event-index;
  run : RunsOn l.ids (map event_view l.events) (map outcome_view l.outcomes.items) (map event_view (drop l.event-index l.events)) l.core;
  bare : AllByRecursion IsBareIn l.outcomes.items;
}
