use Rattle.std.proofs.Common.{rules}
use Rattle.gateway_read.specs.Fields.{snake_of}
use Rattle.gateway_read.specs.Objects.{seen}
use Rattle.gateway_read.proofs.Steps.{fails_then, gives_fault}
use Rattle.gateway_read.proofs.Watches.{watch_create-options}
use Rattle.gateway_read.proofs.watching.watch_create.Goals as goal

pub returns-in_err-key : goal.returns-in_err-key
unfolding snake_of
returns-in_err-key c = rw (watch_create-options (seen c.args.object.now))
    (gives_fault _ c.from_residual.result _ _ c.from_residual.ensures.1 (fails_then _ _ _ c.in_err-key.ensures.gives))

pub returns-in_err-end : goal.returns-in_err-end
unfolding snake_of
returns-in_err-end c = rw (watch_create-options (seen c.args.object.now), c.in_ok-key.ensures.gives)
    (gives_fault _ c.from_residual-in_err-end.result _ _ c.from_residual-in_err-end.ensures.1 (fails_then _ _ _ c.in_err-end.ensures.gives))

pub returns-in_err-options : goal.returns-in_err-options
unfolding snake_of
returns-in_err-options c = rw (watch_create-options (seen c.args.object.now), c.in_ok-key.ensures.gives, c.in_ok-end.ensures.gives)
    (gives_fault _ c.from_residual-in_err-options.result _ _ c.from_residual-in_err-options.ensures.1
    (fails_then _ _ _ c.in_err-options.ensures.0))

pub returns : goal.returns
unfolding snake_of
returns c = rw (watch_create-options (seen c.args.object.now), c.in_ok-key.ensures.gives, c.in_ok-end.ensures.gives, c.in_ok-options.ensures)
    (search rules)
