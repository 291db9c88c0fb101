-- The value of the body, then the object that it is, then its fields.
use Rattle.std.proofs.Common.{◌≡◌, Some, ap}
use Rattle.std.specs.Result.{result_err}
use Rattle.kv_model.specs.Requests.{object_of}
use Rattle.gateway_read.specs.declared.bad.Bad.TheVariants.{TooLong}
use Rattle.gateway_read.specs.Parts.{call_read, takes_memory}
use Rattle.gateway_read.proofs.Bodies.{object_of-read, object_of-fails}
use Rattle.gateway_read.proofs.Steps.{fails_then, gives_by}
use Rattle.gateway_read.proofs.command_of.Goals as goal

pub returns-in-Err-clause-gives : goal.returns-in-Err-clause-gives
returns-in-Err-clause-gives c =
    fails_then c.in-Err.bad (object_of c.args.body.now) (call_read c.args.request)
    (object_of-fails c.args.body.now c.in-Err.bad c.in-Err.ensures.gives)

pub returns-in-Err-clause-too_long : goal.returns-in-Err-clause-too_long
returns-in-Err-clause-too_long c = λ long.
    let same : Some c.in-Err.bad ≡ Some TooLong = ap result_err (c.in-Err.ensures.too_long long) in cc

pub returns-in-Ok-object_of-clause-gives : goal.returns-in-Ok-object_of-clause-gives
returns-in-Ok-object_of-clause-gives c =
    rw (object_of-read c.args.body.now _ c.in-Ok.ensures.gives, c.in-Ok-object_of.ensures)
    (gives_by (takes_memory c.args.request) _ c.command.result _ c.command.ensures)
