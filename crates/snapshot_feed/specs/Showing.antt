-- Which beginnings of the list of all events readers may be shown.
use Rattle.kv_model.specs.Questions.{IsGood}
use Rattle.store_laws.specs.Snapshots.{store_of}
use Rattle.store_laws.specs.Sound.{IsSound}
use Rattle.event_book.specs.Events as events
use Rattle.event_book.specs.Events.{led_to}
use Rattle.event_book.specs.Publishing.{published_by}
use Rattle.std.specs.Prelude.{List}

-- the world that the events lead to has a history with its compaction, and what is stored of what they tell readers answers
-- each of its questions as the whole history does
pub record IsShown (log : List events.Entry) : Type 0 where
  pub sound : IsSound (led_to log)
  pub good : IsGood (store_of (published_by log)).versions (led_to log).mutations (led_to log).compacted
