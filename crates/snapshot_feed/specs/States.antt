-- What a feed is, as plain data.
use Rattle.std.specs.Prelude.{List, [], Bool, true, false}
use Rattle.logbook.specs.Pages.{Book}
use Rattle.event_book.specs.Events as events
use Rattle.event_book.specs.Rules.{Beginning}

-- which list of events it is of, the front of it that is shown, and whether the spare copy is lent
pub record FeedState : Type 0 where
  pub book : Book
  pub published : List events.Entry
  pub lent : Bool

-- a feed to which nothing was done
abbrev pub unused : Book → FeedState
unused b = record { book = b; published = []; lent = false }

-- with the spare copy lent
abbrev pub lent_out : FeedState → FeedState
lent_out f = record f { lent = true }

-- with what was lent shown, at this front
abbrev pub shown_at : FeedState → List events.Entry → FeedState
shown_at f front = record { book = f.book; published = front; lent = false }

abbrev pub state_by : Bool → Beginning → FeedState
state_by lent shown = record { book = shown.book; published = shown.list; lent = lent }
