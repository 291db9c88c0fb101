-- The history that the last line of a server tells of.
use Rattle.std.specs.Prelude.{◌≡◌, ℕ, List, length}
use Rattle.kv_model.specs.declared.ids.Ids.{Ids}
use Rattle.kv_model.specs.World.{revision}
use Rattle.event_book.specs.Callers.{AreAll, Caller, made_by_all}
use Rattle.event_book.specs.Events.{Entry, IsHistory, led_to}

-- There is one list of all events, which is a history: each outcome is the model's behind the events before it. Each event is
-- of one of those who entered events, each of whom has seen all of its own, and there are as many as they entered. This is the
-- revision of the world that the list leads to.
pub record IsOfHistory (ids : Ids) (n : ℕ) : Type 0 where
  pub log : List Entry
  pub history : IsHistory ids log
  pub holders : List Caller
  pub all : AreAll log holders
  pub made : length log ≡ made_by_all holders
  pub revision_is : n ≡ revision (led_to log)
