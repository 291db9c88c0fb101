use Rattle.gateway_read.specs.Compares.{operand_read}
use Rattle.gateway_read.specs.Fields.{snake_of}
use Rattle.gateway_read.proofs.Steps.{fails_then, gives_fault}
use Rattle.gateway_read.proofs.comparing.operand_of.Goals as goal

pub returns-in_err-version : goal.returns-in_err-version
unfolding operand_read snake_of
returns-in_err-version c = gives_fault _ c.from_residual.result _ _ c.from_residual.ensures.1 (fails_then _ _ _ c.in_err-version.ensures.0)

pub returns-in_err-create : goal.returns-in_err-create
unfolding operand_read snake_of
returns-in_err-create c = rw c.in_ok-version.ensures
    (gives_fault _ c.from_residual-in_err-create.result _ _ c.from_residual-in_err-create.ensures.1
    (fails_then _ _ _ c.in_err-create.ensures.0))

pub returns-in_err-modified : goal.returns-in_err-modified
unfolding operand_read snake_of
returns-in_err-modified c = rw (c.in_ok-version.ensures, c.in_ok-create.ensures)
    (gives_fault _ c.from_residual-in_err-modified.result _ _ c.from_residual-in_err-modified.ensures.1
    (fails_then _ _ _ c.in_err-modified.ensures.0))

pub returns-in_err-value : goal.returns-in_err-value
unfolding operand_read snake_of
returns-in_err-value c = rw (c.in_ok-version.ensures, c.in_ok-create.ensures, c.in_ok-modified.ensures)
    (gives_fault _ c.from_residual-in_err-value.result _ _ c.from_residual-in_err-value.ensures.1 (fails_then _ _ _ c.in_err-value.ensures.gives))

pub returns-in_err-lease : goal.returns-in_err-lease
unfolding operand_read snake_of
returns-in_err-lease c = rw (c.in_ok-version.ensures, c.in_ok-create.ensures, c.in_ok-modified.ensures, c.in_ok-value.ensures.gives)
    (gives_fault _ c.from_residual-in_err-lease.result _ _ c.from_residual-in_err-lease.ensures.1 (fails_then _ _ _ c.in_err-lease.ensures.0))
