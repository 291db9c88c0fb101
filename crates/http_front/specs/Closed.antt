-- What a server gives back.
use Rattle.std.specs.Prelude.{List}
use Rattle.kv_model.specs.declared.ids.Ids.{Ids}
use Rattle.request_core.specs.State.{CoreState}
use Rattle.engine_lock.specs.Entering.{Closes}
use Rattle.engine_lock.specs.Locked.{Caller}

-- There is one history of all that was done, each event of which is of one of these clients: the core stands for the world
-- that it leads to, and its revision is 1 plus all changes that they made.
abbrev pub IsClosed : Ids → CoreState → Type 0
IsClosed ids core = (clients : List Caller) × Closes ids core clients
