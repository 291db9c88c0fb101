-- A delivery by what is held of a watch and what is kept.
use Rattle.std.specs.Prelude.{ℕ, ◌≤◌, ⊤, List, map, filter, ◌&&◌, nat_lt, nat_le, Option, None, Some, option_map}
use Rattle.std.specs.Prelude.{if◌then◌else◌}
use Rattle.kv_model.specs.declared.version.Version.{Version}
use Rattle.kv_model.specs.declared.call.Watched.{Watched}
use Rattle.kv_model.specs.Watches.{WatchEvent, event_of, matches}
use Rattle.kv_model.specs.Watches.{Delivery, last_revision}
use Rattle.store_laws.specs.Stands.{Tracked}
use Rattle.watch_hub.specs.Hub.{PendingWatch, pending_of, tracked_at, without_tracked, advanced_to}

-- the events of a message: whole revisions from the front
abbrev pub message_from : List Version → ℕ → Watched → List Version → List WatchEvent
message_from vs c w us = map (event_of vs c w) (filter (λ u. nat_le u.rev.main (last_revision us)) us)

-- what is told of a watch whose first match has this main revision
abbrev pub delivery_from : List Version → ℕ → Watched → Option ℕ → Delivery
delivery_from vs c w None = Delivery.nothing
delivery_from vs c w (Some m) = if nat_lt m c then Delivery.cancelled c
    else Delivery.events (message_from vs c w (filter (λ v. nat_le m v.rev.main && matches w v) vs))

-- what is told of what is held of a watch
abbrev pub delivery_due : List Version → ℕ → PendingWatch → Delivery
delivery_due vs c p = if p.late then Delivery.cancelled c else delivery_from vs c p.watched p.first

abbrev pub delivery_kept : List Version → ℕ → Tracked → Delivery
delivery_kept vs c t = delivery_due vs c (pending_of t)

-- ---- what a delivery leaves of a watch

-- it stays as it was, it ends, or it was told of all up to a revision
pub data Course : Type 0 where
  waits : Course
  ends : Course
  passes : ℕ → Course

abbrev pub course_from : List Version → ℕ → Watched → Option ℕ → Course
course_from vs c w None = Course.waits
course_from vs c w (Some m) = if nat_lt m c then Course.ends
    else Course.passes (last_revision (filter (λ v. nat_le m v.rev.main && matches w v) vs))

abbrev pub course_of : List Version → ℕ → PendingWatch → Course
course_of vs c p = if p.late then Course.ends else course_from vs c p.watched p.first

abbrev pub taken_by : List Version → ℕ → ℕ → List Tracked → Course → List Tracked
taken_by vs now n ts Course.waits = ts
taken_by vs now n ts Course.ends = without_tracked n ts
taken_by vs now n ts (Course.passes last) = advanced_to vs now n last ts

abbrev pub course_at : List Version → ℕ → Option PendingWatch → Course
course_at vs c None = Course.waits
course_at vs c (Some p) = course_of vs c p

-- the watches behind a delivery to the one of this number, by what is kept
abbrev pub delivered : List Version → ℕ → ℕ → ℕ → List Tracked → List Tracked
delivered vs now c n ts = taken_by vs now n ts (course_at vs c (option_map pending_of (tracked_at ts n)))

-- what is told of the watch of a number, if one has it
abbrev pub told_at : List Version → ℕ → Option PendingWatch → Delivery
told_at vs c None = Delivery.no_watch
told_at vs c (Some p) = delivery_due vs c p

-- it passes no later revision
abbrev pub IsWithin : ℕ → Course → Type 0
IsWithin revision Course.waits = ⊤
IsWithin revision Course.ends = ⊤
IsWithin revision (Course.passes last) = last ≤ revision
