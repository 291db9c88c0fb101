-- What stands under a lock beside the list, and what is kept for those who enter events.
use Rattle.std.specs.Prelude.{◌≡◌, ◌<◌, ◌==◌, ℕ, List, Bool, false, true, All, length, slice_index_or}
use Rattle.std.specs.List.{list_any}
use Rattle.logbook.specs.Pages.{Book}
use Rattle.event_book.specs.Callers.{Caller}
use Rattle.event_book.specs.Events.{Entry, events_by}

-- how many events each holder made, and that there is no other holder
pub record AreCounted (counts : List ℕ) (log : List Entry) : Type 0 where
  pub all : length counts ≡ 64
  pub each : (n : ℕ) → n < 64 → slice_index_or counts n 0 ≡ length (events_by n log)
  pub known : All (λ e. e.by < 64) log

-- whose numbers came back
pub record AreMarked (marks : List Bool) (list : List Caller) : Type 0 where
  pub all : length marks ≡ 64
  pub each : (n : ℕ) → n < 64 → slice_index_or marks n false ≡ list_any (λ (c : Caller). c.number == n) list

abbrev pub IsMarked : List Bool → ℕ → Type 0
IsMarked marks n = (n < 64) × (slice_index_or marks n false ≡ true)

-- of what a list is opened with: which ledger its shares are of, into how many parts that is cut, and which list it is
pub record Opened : Type 0 where
  pub name : ℕ
  pub parts : ℕ
  pub book : Book
