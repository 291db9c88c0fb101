use Rattle.std.proofs.Common.{length}
use Rattle.kv_model.specs.World.{World}
use Rattle.store_laws.specs.Stands.{StandsFor}
use Rattle.request_core.specs.State.{keeping_of}
use Rattle.json_gateway.proofs.wire.trim_all.Given as goal

-- the core stands for what it stood for
abbrev pub invariant-loop : goal.invariant-loop
invariant-loop l = (w : World) → StandsFor l.fn.core.store w → StandsFor l.core.store w

-- fewer versions are left to visit
abbrev pub decreases-loop : goal.decreases-loop
decreases-loop l = length (keeping_of l.core).ahead
