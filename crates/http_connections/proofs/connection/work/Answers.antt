use Rattle.std.proofs.Common.{[], subst}
use Rattle.engine_lock.specs.Locked.{Caller}
use Rattle.http_connections.specs.Engines.{Gets}
use Rattle.http_connections.proofs.Giving.{served}
use Rattle.http_connections.proofs.connection.work.Goals as goal

pub returns-clause-gives : goal.returns-clause-gives
returns-clause-gives g c = subst (λ (x : Caller). Gets x c.serve_all.new.state) c.set_about.ensures
    (served c.args.engine.now.ids g.L.EngineName.recorded _ _ _ [] 18446744073709551615 _ _ _ _ _ c.serve_all.ensures.serves)
