-- A server that goes on from a script.
use Rattle.std.specs.Prelude.{◌≡◌, List, Option, ⊤}
use Rattle.kv_model.specs.declared.ids.Ids.{Ids}
use Rattle.kv_model.specs.Wire.{WireEvent, WireOutcome}
use Rattle.json_gateway.specs.declared.outcome.Outcome.{Outcome}
use Rattle.json_gateway.specs.Runs.{command_view}
use Rattle.event_book.specs.Events.{Event}
use Rattle.engine_lock.specs.Entering.{EntersAlone}
use Rattle.engine_lock.specs.Locked.{Caller, IsNew}
use Rattle.http_front.specs.Ends.{IsOfServer}
use Rattle.http_connections.specs.Engines.{Posts}
use Rattle.commands.specs.Playing.{PlaysLines, StopsPlaying}
use Rattle.commands.specs.declared.fault.Fault.{Fault}
use Rattle.commands.specs.declared.fault.Fault.TheVariants as fault
use Rattle.command_line.specs.Controls.{IsMade}

-- An event of a script was made for a client, as an event of a running server is, in the list of all events: a request was
-- submitted, a watch was told what comes next for it or ended, in the world of the events before it; the others are made as by
-- a line to a running server.
abbrev pub IsPlayed : Ids → Caller → WireEvent → WireOutcome → Caller → Type 0
IsPlayed ids c (WireEvent.post path body) o d = (outcome : Outcome) × (o ≡ command_view outcome)
    × Posts ids c path body outcome d
IsPlayed ids c (WireEvent.deliver n) o d = EntersAlone ids c (Event.delivery n) o d
IsPlayed ids c (WireEvent.close n) o d = EntersAlone ids c (Event.ending n) o d
IsPlayed ids c e o d = IsMade ids c e o d

-- Each line asks for an event, and these were made on the list of all events of an engine that answers by these ids, in order,
-- each once, for a client that was new.
abbrev pub IsBegun : Ids → List (Option WireEvent) → Type 0
IsBegun ids lines = (c d : Caller) × IsNew c × PlaysLines (IsPlayed ids) lines c d

-- Why not: there was no place for the client; or a line asks for no event, or its event found no memory, and those before it
-- were made so.
abbrev pub StopsBeginning : Ids → List (Option WireEvent) → Fault → Type 0
StopsBeginning ids lines (fault.Server front) = IsOfServer front
StopsBeginning ids lines f = (c d : Caller) × IsNew c × StopsPlaying (IsPlayed ids) lines c f d

-- A server ends so before its last line: no memory was found for the engine, or `pool` failed, or not every line of the script that
-- it goes on from was played.
abbrev pub StopsServing : Ids → List (Option WireEvent) → Fault → Type 0
StopsServing ids lines fault.Memory = ⊤
StopsServing ids lines f = StopsBeginning ids lines f
