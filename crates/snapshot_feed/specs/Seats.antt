-- A reader's seat, within the tables or not.
use Rattle.std.specs.Prelude.{◌≡◌, ℕ, List, Bool, true, false, Option, Some}
use Rattle.logbook.specs.Pages.{Book}
use Rattle.left_right.specs.Sides.{view}
use Rattle.event_book.specs.Events as events
use Rattle.event_book.specs.Rules.{Beginning}
use Rattle.snapshot_feed.specs.Shown.{ShowsWell, IsOf}
use Rattle.snapshot_feed.specs.declared.rule.Sight.{Sight}
use Rattle.snapshot_feed.specs.declared.seat.Seat.{Seat}
use Rattle.snapshot_feed.specs.declared.seat.Seat.TheVariants.{Out, In}

-- a reader as plain data: the list of events that it is of, the front of it that it has seen or was told of, and whether it is
-- within
pub record Reads : Type 0 where
  pub book : Book
  pub known : List events.Entry
  pub inside : Bool

-- and how often it has looked at what is shown: each entry is one look, at the tables that are shown then
pub record Looking : Type 0 where
  pub reads : Reads
  pub looks : ℕ

-- within no tables
abbrev pub out : Looking → Looking
out r = record r { reads = record r.reads { inside = false } }

abbrev pub is_in : Seat → Bool
is_in (Out r) = false
is_in (In r) = true

abbrev pub sight_of : Seat → Sight
sight_of (Out r) = view r.place
sight_of (In r) = view r.place

-- what the seat knows of
abbrev pub known_to : Seat → Option Beginning
known_to s = (sight_of s).front

-- the seat knows the front's list, and where it is within, the tables are those of the front, which was shown at its last
-- look
abbrev pub IsSeated : Seat → Beginning → Type 0
IsSeated (Out r) f = IsOf f.book (view r.place).front
IsSeated (In r) f = ((view r.place).front ≡ Some f) × (r.part.value.front ≡ f) × ShowsWell r.part.value.tables f

-- it is within the tables of a front of the list, which was shown at its last look
abbrev pub MayRead : Book → Seat → Type 0
MayRead b (Out r) = ⊥
MayRead b (In r) = ((view r.place).front ≡ Some r.part.value.front) × (r.part.value.front.book ≡ b)
    × ShowsWell r.part.value.tables r.part.value.front

-- it is within the tables of this front
abbrev pub IsWithin : Beginning → Seat → Type 0
IsWithin f (Out r) = ⊥
IsWithin f (In r) = r.part.value.front ≡ f
