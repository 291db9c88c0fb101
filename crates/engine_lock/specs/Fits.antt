-- What the lock keeps: the core stands for the world that the list of all events leads to.
use Rattle.std.specs.Prelude.{◌≡◌, ◌++◌, List, fold}
use Rattle.kv_model.specs.declared.ids.Ids.{Ids}
use Rattle.kv_model.specs.Feed.{Published}
use Rattle.kv_model.specs.Wire.{WireEvent, WireOutcome}
use Rattle.kv_model.specs.World.{World}
use Rattle.store_laws.specs.Snapshots.{absorb, store_of}
use Rattle.store_laws.specs.Stands.{StandsFor}
use Rattle.request_core.specs.State.{CoreState, tables_of}
use Rattle.json_gateway.specs.Steps.{Steps}
use Rattle.recording.specs.Lines.{Written}
use Rattle.event_book.specs.Events.{Answers, Entry, Event, led_to, left_by}
use Rattle.event_book.specs.Publishing.{change_by, published_by}
use Rattle.event_script.specs.Scripts.{IsWritten, Taken}

-- the core stands for the world that the events lead to; readers are told of just what these publish, which makes of the
-- empty tables what the core keeps
pub record Fits (core : CoreState) (log : List Entry) (fed : List Published) : Type 0 where
  pub stands : StandsFor core.store (led_to log)
  pub told : fed ≡ published_by log
  pub stored : store_of fed ≡ tables_of core

-- whenever the lock is free: besides, what was written down is the script of the events
pub record IsLocked (core : CoreState) (log : List Entry) (fed : List Published) (lines : Written) (taken : Taken) : Type 0 where
  pub fits : Fits core log fed
  pub written : IsWritten lines taken log

-- An event was made on a core and told to the feed beside it: in each world that the core stood for, at the moment of the
-- event, its outcome is the model's, the core then stands for the model's world after it, and readers are told of just the
-- model's change, which makes of what the core kept what it keeps.
pub record MakesOn (ids : Ids) (e : Event) (o : WireOutcome) (old new : CoreState) (fed more : List Published) : Type 0 where
  pub answers : (w : World) → StandsFor old.store w → Answers ids w e o
  pub stands : (w : World) → StandsFor old.store w → StandsFor new.store (left_by w e o)
  pub told : (w : World) → StandsFor old.store w → more ≡ fed ++ change_by w e o
  pub stored : (w : World) → StandsFor old.store w → tables_of new ≡ fold absorb (tables_of old) (change_by w e o)

-- and in each world that the core stood for it is an event of a run: what is kept is as a run has to keep it
abbrev pub StepsIn : Ids → WireEvent → WireOutcome → CoreState → CoreState → Type 0
StepsIn ids event o old new = (w : World) → StandsFor old.store w → Steps ids w event o old new
