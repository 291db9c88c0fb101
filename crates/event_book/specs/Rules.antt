-- The rule of the book, what its step tells, and beginnings of its list.
use Rattle.std.specs.Prelude.{ℕ, ◌≡◌, ◌<◌, ◌==◌, true, List, [], ◌∷◌, ◌++◌, length, MatchBool, ⊤}
use mathlib.Core.List.{IsPrefix}
use Rattle.logbook.specs.Pages.{Cell, Step, View, Book, Named}
use Rattle.event_book.specs.Events.{Entry}

-- the first word counts the events. A book has two words, of which this one leaves the second at 0
abbrev pub IsKept : List Cell → List Entry → Type 0
IsKept cells log = cells ≡ (length log, true) ∷ (0, true) ∷ []

abbrev pub head_of : Book → Named
head_of b = record { tracked = true; key = 0; book = b }

-- where the number was the one expected, the event was added to all that had been seen, which were as many
abbrev pub AddsEntry : Step Entry → View Entry ℕ → ℕ → View Entry ℕ → Type 0
AddsEntry s v found w = MatchBool (found == s.old) ((w.0 ≡ v.0 ++ s.ask ∷ []) × (length v.0 ≡ s.old)) ⊤

-- a beginning of a list that was seen: which list it is, and its events
pub record Beginning : Type 0 where
  pub book : Book
  pub list : List Entry

-- the first list begins the second, which has more
abbrev pub IsShorter : List Entry → List Entry → Type 0
IsShorter xs ys = IsPrefix xs ys × (length xs < length ys)
