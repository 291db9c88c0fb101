use Rattle.gateway_read.specs.Objects.{seen}
use Rattle.gateway_read.proofs.Steps.{fails_then, gives_fault}
use Rattle.gateway_read.proofs.Watches.{watch_request-create}
use Rattle.gateway_read.proofs.watching.watch_request.Goals as goal

pub returns-in_err-create : goal.returns-in_err-create
returns-in_err-create c = rw (watch_request-create (seen c.args.object.now))
    (gives_fault _ c.from_residual.result _ _ c.from_residual.ensures.1 (fails_then _ _ _ c.in_err-create.ensures.0))

pub returns : goal.returns
returns c = rw (watch_request-create (seen c.args.object.now), c.in_ok-create.ensures) c.watch_create.ensures
