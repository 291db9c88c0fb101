-- The streams that stand, and the client that has their watches told.
use Rattle.std.specs.Prelude.{◌≡◌, ℕ, List, map, slice_get, Bool, false, not, Option, None, Some}
use Rattle.std.specs.BTreeMap.{insert_entry, is_at}
use Rattle.std.specs.List.{AllByRecursion}
use Rattle.std.specs.Map.{lookup, remove_entry, set_value}
use Rattle.std.specs.Option.{option_map, option_map_or}
use Rattle.std.specs.Ordering.{nat_cmp}
use Rattle.kv_model.specs.declared.ids.Ids.{Ids}
use Rattle.kv_model.specs.Follows.Outcome.{said}
use Rattle.kv_model.specs.Wire.{WireTold}
use Rattle.event_book.specs.Events.{Event}
use Rattle.engine_lock.specs.Entering.{EntersAlone}
use Rattle.engine_lock.specs.Locked.{Caller}
use Rattle.watch_streams.specs.Lines.{LineState, begun_at, is_out}
use Rattle.watch_streams.specs.Turns.{Turned}
use Rattle.watch_streams.specs.declared.turning.Turn.{Turn}

-- the client, and each stream by the number of its watch
pub record SetState : Type 0 where
  pub client : Caller
  pub lines : List (ℕ × LineState)

-- each stands by the number of its watch
abbrev pub AreNumbered : List (ℕ × LineState) → Type 0
AreNumbered ls = AllByRecursion (λ l. l.1.number ≡ l.0) ls

-- the numbers, rising, and the first of them
abbrev pub numbers : SetState → List ℕ
numbers s = map (λ l. l.0) s.lines

abbrev pub first_number : SetState → Option ℕ
first_number s = option_map (λ l. l.0) (slice_get s.lines 0)

-- the stream of a watch
abbrev pub line_at : ℕ → SetState → Option LineState
line_at n s = lookup (is_at (nat_cmp n)) s.lines

abbrev pub with_line : ℕ → LineState → SetState → List (ℕ × LineState)
with_line n l s = set_value (is_at (nat_cmp n)) s.lines l

-- whether anything has not gone out of the stream of a watch; of none nothing is left
abbrev pub is_unsent : ℕ → SetState → Bool
is_unsent n s = option_map_or (λ l. not (is_out l)) (line_at n s) false

-- the stream of this watch began
abbrev pub begun : ℕ → ℕ → Option (List ℕ) → SetState → SetState
begun n call wrote s = record s { lines = insert_entry nat_cmp s.lines n (begun_at n call wrote) }

-- the stream of this watch, if it stands, is changed so, and no other has changed
pub data ChangesOne (change : LineState → LineState) (n : ℕ) (old new : SetState) : Type 0 where
  none : line_at n old ≡ None → new ≡ old → ChangesOne change n old new
  one : (l : LineState) → line_at n old ≡ Some l → new.client ≡ old.client → new.lines ≡ with_line n (change l) old
      → ChangesOne change n old new

-- the stream of this watch had a turn, and no other has changed
pub record TurnsOf (ids : Ids) (n : ℕ) (old : SetState) (t : Turn) (new : SetState) : Type 0 where
  pub before : LineState
  pub after : LineState
  pub stood : line_at n old ≡ Some before
  pub number : before.number ≡ n
  pub turned : Turned ids old.client before t new.client after
  pub lines : new.lines ≡ with_line n after old

-- the watch of this number was ended, if it stood, by one event of the client
abbrev pub IsEnded : Ids → ℕ → Caller → Caller → Type 0
IsEnded ids n old new = (stood : Bool) × EntersAlone ids old (Event.ending n) (said (WireTold.closed stood)) new

-- the stream of this watch is let go, and its watch was ended
pub record LetsGo (ids : Ids) (n : ℕ) (old new : SetState) : Type 0 where
  pub lines : new.lines ≡ remove_entry (is_at (nat_cmp n)) old.lines
  pub ended : IsEnded ids n old.client new.client
