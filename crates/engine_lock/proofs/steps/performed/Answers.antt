use Rattle.std.proofs.Common.{◌≡◌, Ok, subst}
use Rattle.kv_model.specs.declared.call.Command.{Command}
use Rattle.kv_model.specs.Commands.{call_of}
use Rattle.kv_model.specs.Wire.{is_physical_call}
use Rattle.engine_lock.proofs.Stepping.{makes_command}
use Rattle.engine_lock.proofs.steps.performed.Goals as goal

pub returns-clause-makes : goal.returns-clause-makes
returns-clause-makes c = λ now fed. makes_command c.args.ids.now now c.args.asked.now c.command.result.now c.args.core.now c.perform_to.new.core
    fed c.args.ops.now c.perform_to.new.sink c.perform_to.result c.command.ensures.command c.perform_to.ensures.ends c.perform_to.ensures.unchanged
    c.perform_to.ensures.told c.perform_to.ensures.stored c.perform_to.ensures.untold

pub returns-clause-asked : goal.returns-clause-asked
returns-clause-asked c = c.command.ensures.asked

pub returns-clause-waits : goal.returns-clause-waits
returns-clause-waits c = λ w h fine. subst (λ (x : Command). c.perform_to.result.waits ≡ is_physical_call w (Ok (call_of x))) c.command.ensures.command
    (c.perform_to.ensures.waits w h fine)
