-- What a holder has seen of the list, and what its calls say of it.
use Rattle.std.specs.Prelude.{◌≡◌, ◌==◌, ℕ, List, [], ◌∷◌, ◌++◌, All, length, map, sum, true}
use Rattle.std.specs.List.{list_any}
use mathlib.Core.List.{IsPrefix}
use Rattle.kv_model.specs.declared.ids.Ids.{Ids}
use Rattle.kv_model.specs.Wire.{WireOutcome}
use Rattle.event_book.specs.Events.{Answers, Entry, Event, IsAskedFor, IsHistory, clocked, entry, events_by, events_of, led_to}

-- of a holder: its number, and the beginning of the list that it has seen
pub record Caller : Type 0 where
  pub number : ℕ
  pub front : List Entry

-- The list grew by events of others, and then by just this one of this holder, whose outcome is the model's behind all of
-- those; and the holder has now seen the list up to it.
pub record Adds (ids : Ids) (c : Caller) (about : ℕ) (e : Event) (o : WireOutcome) (later : Caller) : Type 0 where
  pub between : List Entry
  pub others : events_by c.number between ≡ []
  pub grows : later.front ≡ (c.front ++ between) ++ entry c.number about e o ∷ []
  pub answers : Answers ids (clocked (led_to (c.front ++ between)) e) e o
  pub asked : IsAskedFor e
  pub history : IsHistory ids later.front
  pub number : later.number ≡ c.number

-- the list grew by events of others, and the holder has now seen it up to the last of them
pub record Shows (c later : Caller) : Type 0 where
  pub between : List Entry
  pub others : events_by c.number between ≡ []
  pub grows : later.front ≡ c.front ++ between
  pub number : later.number ≡ c.number

-- these are, in order, all events that were made for this holder meanwhile
pub record Gives (c : Caller) (own : List Entry) (later : Caller) : Type 0 where
  pub begins : IsPrefix c.front later.front
  pub mine : events_by c.number later.front ≡ events_by c.number c.front ++ own
  pub number : later.number ≡ c.number

-- and those for what it names by this number
pub record GivesTo (c : Caller) (about : ℕ) (own : List Entry) (later : Caller) : Type 0 where
  pub begins : IsPrefix c.front later.front
  pub mine : events_of c.number about later.front ≡ events_of c.number about c.front ++ own
  pub number : later.number ≡ c.number

-- ---- at the end

-- what a holder has seen begins the list, and it has seen each event of its own
pub record Owns (log : List Entry) (c : Caller) : Type 0 where
  pub begins : IsPrefix c.front log
  pub mine : events_by c.number log ≡ events_by c.number c.front

-- and each event is of one of them
pub record AreAll (log : List Entry) (holders : List Caller) : Type 0 where
  pub owns : All (Owns log) holders
  pub each : All (λ e. list_any (λ (c : Caller). c.number == e.by) holders ≡ true) log

-- how many events a holder has seen of its own
abbrev pub made_by : Caller → ℕ
made_by c = length (events_by c.number c.front)

-- and how many they have together
abbrev pub made_by_all : List Caller → ℕ
made_by_all holders = sum (map made_by holders)

-- how many holders were made, and those that came back, in order
pub record Back : Type 0 where
  pub holders : ℕ
  pub list : List Caller
