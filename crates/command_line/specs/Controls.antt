-- What a server does that lines control.
use Rattle.std.specs.Prelude.{◌≡◌, ◌⊎◌}
use Rattle.kv_model.specs.declared.ids.Ids.{Ids}
use Rattle.kv_model.specs.Follows as follows
use Rattle.kv_model.specs.Wire.{WireEvent, WireOutcome}
use Rattle.event_book.specs.Events.{Event}
use Rattle.engine_lock.specs.Entering.{Makes, ShowsTo}
use Rattle.engine_lock.specs.Locked.{Caller}

-- An order was done for a client: an event of the list of all events, into which only others entered events in between, made
-- on a core that stood for the world before it, with this outcome of a run there. A step of expiry is made at the engine's
-- clock, as the moment 0 leaves that. Of a trimming step readers may not be told for want of memory, and then it is not made.
abbrev pub IsMade : Ids → Caller → WireEvent → WireOutcome → Caller → Type 0
IsMade ids c (WireEvent.moment now) o d = Makes ids c (Event.moment now) (WireEvent.moment now) o d
IsMade ids c WireEvent.expire o d = Makes ids c (Event.expiry 0) WireEvent.expire o d
IsMade ids c WireEvent.trim o d = Makes ids c Event.trimming WireEvent.trim o d ⊎ (ShowsTo c d × (o ≡ follows.Outcome.memory))
IsMade ids c WireEvent.certify o d = Makes ids c Event.certificate WireEvent.certify o d
IsMade ids c _ o d = ⊥
