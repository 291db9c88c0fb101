-- The entry of an event that was made, by what was lent of it.
use Rattle.std.specs.Prelude.{None}
use Rattle.trim_core.specs.Told.{told_of}
use Rattle.kv_model.specs.Follows.Outcome.{said}
use Rattle.kv_model.specs.Wire.{WireOutcome, WireTold, trim_told}
use Rattle.json_gateway.specs.Runs.{certified_outcome, command_view, delivery_outcome, trimmed_view}
use Rattle.event_book.specs.Events.{Entry, Event, entry}
use Rattle.event_script.specs.Notes.{step_outcome}
use Rattle.engine_lock.specs.declared.making.Made.{Made}
use Rattle.engine_lock.specs.declared.making.Made.TheVariants as made
use Rattle.engine_lock.specs.declared.making.Making.{Making}

abbrev pub event_made : Made → Event
event_made (made.Moment now clock) = Event.moment now
event_made (made.Command now asked outcome) = Event.command now asked.now
event_made (made.Expiry now step) = Event.expiry now
event_made (made.Delivery number told) = Event.delivery number
event_made (made.Ending number stood) = Event.ending number
event_made (made.Trimming step) = Event.trimming
event_made (made.Checked step) = Event.trimming
event_made (made.Certificate shown) = Event.certificate

abbrev pub outcome_made : Made → WireOutcome
outcome_made (made.Moment now clock) = said (WireTold.clock clock)
outcome_made (made.Command now asked outcome) = command_view outcome.now
outcome_made (made.Expiry now step) = step_outcome step.now
outcome_made (made.Delivery number told) = delivery_outcome told.now
outcome_made (made.Ending number stood) = said (WireTold.closed stood)
outcome_made (made.Trimming step) = said (trim_told (told_of step.now) None)
outcome_made (made.Checked step) = said (trimmed_view step.now)
outcome_made (made.Certificate shown) = certified_outcome shown.now

abbrev pub entry_made : Making → Entry
entry_made m = entry m.by m.about (event_made m.made) (outcome_made m.made)
