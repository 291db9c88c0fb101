-- What is taken of the lines under the lock.
use Rattle.std.specs.Prelude.{ℕ, List, Bool}
use Rattle.kv_model.specs.declared.ids.Ids.{Ids}
use Rattle.event_book.specs.Events.{IsHistory}
use Rattle.event_script.specs.Scripts.{Taken}
use Rattle.event_script.specs.Taking.{Takes}

-- the text goes on in the script of the list of all events, which is a history
pub record TakesLines (ids : Ids) (old new : Taken) (text : List ℕ) (all : Bool) : Type 0 where
  pub takes : Takes old new text all
  pub history : IsHistory ids new.front
