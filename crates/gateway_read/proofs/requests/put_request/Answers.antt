use Rattle.std.proofs.Common.{rules}
use Rattle.gateway_read.specs.Fields.{snake_of}
use Rattle.gateway_read.specs.Objects.{seen}
use Rattle.gateway_read.proofs.Readings.{put_request-parts}
use Rattle.gateway_read.proofs.Steps.{fails_then, gives_fault}
use Rattle.gateway_read.proofs.requests.put_request.Goals as goal

pub returns-in_err-key : goal.returns-in_err-key
returns-in_err-key c = rw (put_request-parts (seen c.args.object.now))
    (gives_fault _ c.from_residual.result _ _ c.from_residual.ensures.1 (fails_then _ _ _ c.in_err-key.ensures))

pub returns-in_err-integer_field : goal.returns-in_err-integer_field
unfolding snake_of
returns-in_err-integer_field c = rw (put_request-parts (seen c.args.object.now), c.in_ok-key.ensures)
    (gives_fault _ c.from_residual-in_err-integer_field.result _ _ c.from_residual-in_err-integer_field.ensures.1
    (fails_then _ _ _ c.in_err-integer_field.ensures.0))

pub returns-in_err-truth_field : goal.returns-in_err-truth_field
unfolding snake_of
returns-in_err-truth_field c = rw (put_request-parts (seen c.args.object.now), c.in_ok-key.ensures, c.in_ok-integer_field.ensures)
    (gives_fault _ c.from_residual-in_err-truth_field.result _ _ c.from_residual-in_err-truth_field.ensures.1
    (fails_then _ _ _ c.in_err-truth_field.ensures.0))

pub returns-in_err-truth_field-2 : goal.returns-in_err-truth_field-2
unfolding snake_of
returns-in_err-truth_field-2 c =
    rw (put_request-parts (seen c.args.object.now), c.in_ok-key.ensures, c.in_ok-integer_field.ensures, c.in_ok-truth_field.ensures)
    (gives_fault _ c.from_residual-in_err-truth_field-2.result _ _ c.from_residual-in_err-truth_field-2.ensures.1
    (fails_then _ _ _ c.in_err-truth_field-2.ensures.0))

pub returns-in_err-truth_field-3 : goal.returns-in_err-truth_field-3
unfolding snake_of
returns-in_err-truth_field-3 c =
    rw (put_request-parts (seen c.args.object.now), c.in_ok-key.ensures, c.in_ok-integer_field.ensures, c.in_ok-truth_field.ensures)
    (rw c.in_ok-truth_field-2.ensures
    (gives_fault _ c.from_residual-in_err-truth_field-3.result _ _ c.from_residual-in_err-truth_field-3.ensures.1
    (fails_then _ _ _ c.in_err-truth_field-3.ensures.0)))

pub returns : goal.returns
unfolding snake_of
returns c =
    rw (put_request-parts (seen c.args.object.now), c.in_ok-key.ensures, c.in_ok-integer_field.ensures, c.in_ok-truth_field.ensures)
    (rw (c.in_ok-truth_field-2.ensures, c.in_ok-truth_field-3.ensures) (search rules))
