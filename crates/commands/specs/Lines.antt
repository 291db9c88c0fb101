-- The lines of a script, as the events among them and of each line whether it is one.
-- Nothing that a reader must believe: `Replies` says what is written.
use Rattle.std.specs.Prelude.{◌≡◌, List, [], ◌∷◌, Bool, true, false, Option, None, Some, map}
use Rattle.json_gateway.specs.Runs.{event_view}
use Rattle.kv_model.specs.Wire.{WireEvent}
use Rattle.commands.specs.declared.script.Lines.{Lines}
use Rattle.commands.specs.Replies.{events_among}

-- of each line, whether it is that of an event
abbrev pub are_events : List (Option WireEvent) → List Bool
are_events [] = []
are_events (None ∷ ls) = false ∷ are_events ls
are_events (Some e ∷ ls) = true ∷ are_events ls

pub record AreLines (lines : Lines) (ls : List (Option WireEvent)) : Type 0 where
  pub events : map event_view lines.events.items ≡ events_among ls
  pub flags : lines.are_events.items ≡ are_events ls
