-- One event of a run on a core: its outcome, the world that the core then stands for, and what is kept.
use Rattle.std.specs.Prelude.{◌≡◌, Bool, MatchBool}
use Rattle.kv_model.specs.declared.ids.Ids.{Ids}
use Rattle.kv_model.specs.World.{World}
use Rattle.kv_model.specs.Follows as follows
use Rattle.kv_model.specs.Wire as model
use Rattle.kv_model.specs.Wire.{wire_step, is_free, takes_memory, MayLose}
use Rattle.kv_model.specs.Headline.{IsTrimmed, Keeps}
use Rattle.store_laws.specs.Stands.{StandsFor}
use Rattle.request_core.specs.State.{CoreState, keeping_of}

-- the outcome is the model's for this event, the core then stands for the world after it, and it keeps what it has to
pub record Steps (ids : Ids) (w : World) (e : model.WireEvent) (o : model.WireOutcome) (old new : CoreState) : Type 0
  where
    pub answers : follows.Answers (wire_step ids) is_free takes_memory MayLose w e o
    pub stands : StandsFor new.store (follows.after_outcome (wire_step ids) w e o)
    pub keeps : Keeps ids w (keeping_of old) e o (keeping_of new)

-- ---- trimming that an answer waits for

-- Trimming steps until one is done: in each world that the core stood for, and stands for still, a least list is kept,
-- and nothing is left to visit.
abbrev pub TrimsAll : CoreState → CoreState → Type 0
TrimsAll old new = (w : World) → StandsFor old.store w → StandsFor new.store w × IsTrimmed w (keeping_of new)

-- they are made where an answer waits for them
abbrev pub TrimsWhere : Bool → CoreState → CoreState → Type 0
TrimsWhere waits old new = MatchBool waits (TrimsAll old new) (new ≡ old)
