-- What clauses see of an engine: its clients, and what stands under its lock.
use Rattle.std.specs.Prelude.{◌≡◌, ℕ, List, [], Bool, false}
use Rattle.kv_model.specs.declared.ids.Ids.{Ids}
use Rattle.snapshot_feed.specs.Seats.{Reads}
use Rattle.request_core.specs.State.{CoreState}
use Rattle.recording.specs.Lines.{Written}
use Rattle.event_book.specs.Callers as list
use Rattle.event_book.specs.Events.{Entry}
use Rattle.event_script.specs.Scripts.{Taken}
use Rattle.engine_lock.specs.Copied.{Publication}

-- of an engine: by which ids it answers, how many clients it made, and whether its events are written down
pub record EngineState : Type 0 where
  pub ids : Ids
  pub clients : ℕ
  pub recorded : Bool

-- of a client: its number in the list of events, with what it has seen of that; what its next events are about; and its
-- reader beside the writers
pub record Caller : Type 0 where
  pub holder : list.Caller
  pub about : ℕ
  pub reader : Reads

-- of what stands under the lock: the core, the list of all events, the feed of what readers are told of, and how many trimming
-- steps were made since they were last told of some; what was written down, and up to which event that was taken
pub record LockState : Type 0 where
  pub core : CoreState
  pub log : List Entry
  pub feed : Publication
  pub steps : ℕ
  pub lines : Written
  pub taken : Taken

-- a client that nobody has used
abbrev pub IsNew : Caller → Type 0
IsNew c = (c.holder.front ≡ []) × (c.about ≡ 0)

-- one that has left its reading
abbrev pub left : Caller → Caller
left c = record c { reader = record c.reader { inside = false } }

-- one whose next events are about this
abbrev pub naming : Caller → ℕ → Caller
naming c about = record c { about = about }

-- one that has seen so much of the list, has left its reading, and knows of this front for its reads
abbrev pub knowing : Caller → list.Caller → List Entry → Caller
knowing c holder known = record c { holder = holder; reader = record c.reader { known = known; inside = false } }
