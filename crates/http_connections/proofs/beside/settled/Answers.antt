use Rattle.std.proofs.Common.{subst}
use Rattle.http_connections.specs.Engines.{IsAnswer}
use Rattle.http_connections.proofs.Readings.{declined_is}
use Rattle.http_connections.proofs.beside.settled.Goals as goal

pub returns-in-Err : goal.returns-in-Err
returns-in-Err c = λ told t. declined_is c.args.ids.now c.declined.result c.in-Err.refusal told c.declined.ensures.refuses
    (subst (IsAnswer told) c.in-Err.is t)
