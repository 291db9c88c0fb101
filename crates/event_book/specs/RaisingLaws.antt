-- What is said of what events raise the revision by.
use Rattle.std.specs.Prelude.{◌≡◌, ◌+◌, ◌++◌, ℕ, List, true, cond, is_some, length, map, sum}
use Rattle.kv_model.specs.declared.ids.Ids.{Ids}
use Rattle.kv_model.specs.Commands.{call_of}
use Rattle.kv_model.specs.Step.{expire, perform}
use Rattle.kv_model.specs.Wire.{WireOutcome, raised}
use Rattle.kv_model.specs.World.{World, at_moment, revision}
use Rattle.event_book.specs.Asking.{Asking}
use Rattle.event_book.specs.Callers.{Adds, AreAll, Caller, Shows, made_by_all}
use Rattle.event_book.specs.Events.{Entry, Event, entry, led_to}
use Rattle.event_book.specs.Raising.{raises, rise_of, was_made}

-- a call that enters an event raises by what that event does, behind those of others
abbrev pub RaisedAdds : Type 0
RaisedAdds = (ids : Ids) (c later : Caller) (about : ℕ) (e : Event) (o : WireOutcome) (a : Adds ids c about e o later)
    → raises later ≡ raises c + rise_of (led_to (c.front ++ a.between)) (entry c.number about e o)

-- and one that shows the list nothing
abbrev pub RaisedShows : Type 0
RaisedShows = (c later : Caller) → Shows c later → raises later ≡ raises c

-- a command that was made raises it by one where it tells that it did, and else not
abbrev pub RiseCommand : Type 0
RiseCommand = (w : World) (by about now : ℕ) (asking : Asking) (o : WireOutcome) → was_made o ≡ true
    → rise_of w (entry by about (Event.command now asking) o)
    ≡ cond (is_some (raised (at_moment w now) (perform (at_moment w now) (call_of asking.command)).1)) 1 0

-- and so does a step of expiry
abbrev pub RiseExpiry : Type 0
RiseExpiry = (w : World) (by about now : ℕ) (o : WireOutcome) → was_made o ≡ true
    → rise_of w (entry by about (Event.expiry now) o) ≡ cond (is_some (raised (at_moment w now) (expire (at_moment w now)).1)) 1 0

-- at the end the revision is 1 and what all holders raised it by
abbrev pub RaisedAll : Type 0
RaisedAll = (log : List Entry) (cs : List Caller) → AreAll log cs → length log ≡ made_by_all cs
    → revision (led_to log) ≡ 1 + sum (map raises cs)
