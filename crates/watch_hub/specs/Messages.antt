-- How far a message goes: the matched versions are counted one after another, up to the one that it has no room for.
use Rattle.std.specs.Prelude.{ℕ, ◌+◌, List, [], ◌∷◌, Bool, ◌&&◌, ◌||◌, ◌==◌, map, nat_lt, if◌then◌else◌, option_map}
use Rattle.kv_model.specs.declared.version.Version.{Version}
use Rattle.kv_model.specs.Watches.{most_events, WatchEvent}
use Rattle.range_view.specs.Replies.{kv_view}
use Rattle.watch_hub.specs.declared.tally.Tally.{Tally}
use Rattle.watch_hub.specs.declared.message.Event.{Event}
use Rattle.watch_hub.specs.declared.delivery.Delivery.{Delivery}
use Rattle.watch_hub.specs.declared.delivery.Delivery.TheVariants as delivery
use Rattle.watch_hub.specs.declared.delivery.Course.{Course as Going}
use Rattle.watch_hub.specs.declared.delivery.Course.TheVariants as going
use Rattle.kv_model.specs.Watches.{Delivery as ModelDelivery}
use Rattle.watch_hub.specs.Delivering.{Course}

-- an event that lends, as plain data
abbrev pub event_view : Event → WatchEvent
event_view e = record { version = e.version.now; before = option_map kv_view e.previous }

abbrev pub delivery_view : Delivery → ModelDelivery
delivery_view delivery.Nothing = ModelDelivery.nothing
delivery_view (delivery.Events es) = ModelDelivery.events (map event_view es.items)
delivery_view (delivery.Cancelled c) = ModelDelivery.cancelled c

abbrev pub course_view : Going → Course
course_view going.Waits = Course.waits
course_view going.Ends = Course.ends
course_view (going.Passes last) = Course.passes last

-- the first event, which is of this revision
abbrev pub first_tally : ℕ → Tally
first_tally main = record { events = 1; whole = main; current = main }

-- there is room for one event more, of this revision: of the first revision there always is
abbrev pub has_room : Tally → ℕ → Bool
has_room t main = nat_lt t.events most_events || (main == t.current && t.whole == t.current)

-- one event more, of this revision; no more are counted than a message takes
abbrev pub counted : Tally → ℕ → Tally
counted t main = record {
  events = if nat_lt t.events most_events then t.events + 1 else t.events;
  whole = if main == t.current then t.whole else t.current;
  current = main;
}

-- the last revision that is whole, where the next event, of this revision, has no room
abbrev pub cut_at : Tally → ℕ → ℕ
cut_at t main = if main == t.current then t.whole else t.current

-- the last revision of the message, where these are left
abbrev pub tallied : Tally → List Version → ℕ
tallied t [] = t.current
tallied t (u ∷ us) = if has_room t u.rev.main then tallied (counted t u.rev.main) us else cut_at t u.rev.main

-- those of them that are counted
abbrev pub with_room : Tally → List Version → List Version
with_room t [] = []
with_room t (u ∷ us) = if has_room t u.rev.main then u ∷ with_room (counted t u.rev.main) us else []
