-- What readers beside the lock are told of the events of a list.
use Rattle.std.specs.Prelude.{List, [], ◌∷◌, ◌++◌}
use Rattle.kv_model.specs.Commands.{call_of}
use Rattle.kv_model.specs.Feed.{Published}
use Rattle.kv_model.specs.Follows.{Outcome}
use Rattle.kv_model.specs.Wire.{WireOutcome}
use Rattle.kv_model.specs.World.{World, opening}
use Rattle.store_laws.specs.Changes.{change_of, change_of_expiry}
use Rattle.event_book.specs.Events.{Entry, Event, after, clocked}

-- what an event tells readers in its world: the change of a command, which is none where the model refuses it, or of a
-- step of expiry; a trimming step; else nothing
abbrev pub change_made : World → Event → List Published
change_made w (Event.command now asking) = change_of w (call_of asking.command)
change_made w (Event.expiry now) = change_of_expiry w
change_made w Event.trimming = Published.trim ∷ []
change_made w _ = []

-- and where it found no memory, nothing
abbrev pub change_by : World → Event → WireOutcome → List Published
change_by w e Outcome.memory = []
change_by w e (Outcome.lost l) = change_made w e
change_by w e (Outcome.said t) = change_made w e

-- what they are told of the events from a world on
abbrev pub published_from : World → List Entry → List Published
published_from w [] = []
published_from w (e ∷ es) = change_by (clocked w e.event) e.event e.outcome ++ published_from (after w e) es

-- and of all of them
abbrev pub published_by : List Entry → List Published
published_by log = published_from opening log
