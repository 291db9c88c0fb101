-- The law of a script: it is the lines of events that lead where the list leads.
use Rattle.std.specs.Prelude.{◌≡◌, ◌<◌, ◌^◌, List, All, IsOk, MatchBool, fold, map, ⊤}
use Rattle.std.specs.List.{concat}
use mathlib.Core.List.{IsPrefix}
use Rattle.kv_model.specs.declared.ids.Ids.{Ids}
use Rattle.kv_model.specs.Requests.{request_of}
use Rattle.kv_model.specs.Wire.{WireEvent, wire_step}
use Rattle.kv_model.specs.World.{World, at_moment, opening}
use Rattle.recording.specs.Lines.{Written, all_of, line_of}
use Rattle.event_book.specs.Events.{Entry, IsHistory, led_to}
use Rattle.event_script.specs.Scripts.{AllAsked, AllFit, IsWritten, Taken, script_of, written_by}

-- an event that is written down: a request is one for a command, and numbers have 64 bits
abbrev pub HasLine : WireEvent → Type 0
HasLine (WireEvent.moment n) = n < 2 ^ 64
HasLine (WireEvent.post path body) = IsOk (request_of path body)
HasLine (WireEvent.deliver n) = n < 2 ^ 64
HasLine (WireEvent.close n) = n < 2 ^ 64
HasLine _ = ⊤

-- the world that a run of these events comes to, from a store that nobody has used on, by these ids
abbrev pub run_by : Ids → List WireEvent → World
run_by ids events = fold (λ w e. (wire_step ids w e).1) opening events

-- the script is the lines of these events, which lead to the world of the list at the moment that was handed in last
pub record Leads (log : List Entry) : Type 0 where
  pub events : List WireEvent
  pub each : All HasLine events
  pub lines : script_of log ≡ concat (map line_of events)
  pub leads : (ids : Ids) → at_moment (run_by ids events) (written_by log).clock ≡ led_to log

abbrev pub ScriptLeads : Type 0
ScriptLeads = (ids : Ids) (log : List Entry) → IsHistory ids log → AllAsked log → AllFit log → Leads log

-- the script of a beginning begins the script of the list
abbrev pub ScriptGrows : Type 0
ScriptGrows = (front log : List Entry) → IsPrefix front log → IsPrefix (script_of front) (script_of log)

-- what was written down is the script of this beginning of the list, and leads where it leads; where no line was lost, this is
-- the whole list
pub record LeadsBy (l : Written) (log : List Entry) : Type 0 where
  pub front : List Entry
  pub begins : IsPrefix front log
  pub lines : all_of l ≡ script_of front
  pub leads : Leads front
  pub whole : MatchBool l.is_lost ⊤ ((front ≡ log) × (l.clock ≡ (written_by log).clock))

abbrev pub WrittenLeads : Type 0
WrittenLeads = (ids : Ids) (l : Written) (t : Taken) (log : List Entry) → IsWritten l t log → IsHistory ids log → LeadsBy l log
