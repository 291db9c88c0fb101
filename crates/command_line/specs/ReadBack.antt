-- Laws of a recording: what is written down of events is read as those events.
use Rattle.std.specs.Prelude.{◌≡◌, ◌≢◌, ⊤, ℕ, ◌+◌, ◌^◌, ◌<◌, ◌≤◌, List, ◌++◌, All, map, length, Some}
use Rattle.std.specs.List.{before_first, concat}
use Rattle.kv_model.specs.declared.ids.Ids.{Ids}
use Rattle.kv_model.specs.Wire.{WireEvent}
use Rattle.recording.specs.Lines.{Written, all_of, within_line, line_of}
use Rattle.event_book.specs.Events.{Entry, IsHistory}
use Rattle.event_script.specs.Leading.{LeadsBy}
use Rattle.event_script.specs.Scripts.{IsWritten, Taken}
use Rattle.commands.specs.Playing.{AreAllEvents}
use Rattle.commands.specs.Script.{longest_line, is, event_of, line_events}

-- a byte that the path of a line may have: no space, which ends the path, and no line feed, which ends the line
abbrev pub IsOfPath : ℕ → Type 0
IsOfPath b = (b ≢ 32) × (b ≢ 10)

-- an event whose line is read: its number has 64 bits; or its path is plain, and its line, with the line feed, not too long
abbrev pub IsRecordable : WireEvent → Type 0
IsRecordable (WireEvent.moment n) = n < 2 ^ 64
IsRecordable (WireEvent.post path body) = All IsOfPath path
    × (length (line_of (WireEvent.post path body)) ≤ longest_line + 1)
IsRecordable (WireEvent.deliver n) = n < 2 ^ 64
IsRecordable (WireEvent.close n) = n < 2 ^ 64
IsRecordable _ = ⊤

-- the event that the line asks for: the same, with a space in the body for each byte that would end the line
abbrev pub as_read : WireEvent → WireEvent
as_read (WireEvent.post path body) = WireEvent.post path (map within_line body)
as_read e = e

-- the line of each event, up to its line feed, asks for that event
abbrev pub IsEachReadBack : Type 0
IsEachReadBack = (e : WireEvent) → IsRecordable e → event_of (before_first (is 10) (line_of e)) ≡ Some (as_read e)

-- the lines of events, one after the other, ask for those events in order; what follows them is read as it is by itself
abbrev pub AreReadBack : Type 0
AreReadBack = (events : List WireEvent) (rest : List ℕ) → All IsRecordable events
    → line_events (concat (map line_of events) ++ rest) ≡ map (λ e. Some (as_read e)) events ++ line_events rest

-- What an engine has written down of the list of its events is read as events that lead where a beginning of the list leads:
-- the whole list, where no line was lost.
abbrev pub IsRecordingReadBack : Type 0
IsRecordingReadBack = (ids : Ids) (l : Written) (t : Taken) (log : List Entry) → IsWritten l t log → IsHistory ids log
    → (led : LeadsBy l log) × (line_events (all_of l) ≡ map (λ e. Some (as_read e)) led.leads.events)

-- Each line of it asks for an event: a server goes on from it.
abbrev pub IsRecordingScript : Type 0
IsRecordingScript = (ids : Ids) (l : Written) (t : Taken) (log : List Entry) → IsWritten l t log → IsHistory ids log
    → AreAllEvents (line_events (all_of l))
