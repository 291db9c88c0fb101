use Rattle.std.proofs.Common.{IfOk, subst}
use Rattle.http_front.specs.Closed.{IsClosed}
use Rattle.command_line.proofs.Closing.{of_core}
use Rattle.command_line.proofs.serving.run_pool.Goals as goal

pub returns-clause-revision : goal.returns-clause-revision
returns-clause-revision g c =
    of_core _ c.pool_begun.result c.ended.result (subst (λ ids. IfOk c.pool_begun.result (λ core. IsClosed ids core)) c.requires c.pool_begun.ensures.closed) c.ended.ensures
