use Rattle.std.proofs.Common.{sym, subst, Result}
use Rattle.kv_model.specs.Calls.{Call}
use Rattle.kv_model.specs.Requests.{Bad}
use Rattle.kv_model.specs.Wire.{post_call}
use Rattle.json_gateway.specs.Endings.{KeepsAs, fault_of_reading}
use Rattle.json_gateway.proofs.Keeps.{dismissed_keeps}
use Rattle.json_gateway.proofs.commands.post_by.Goals as goal

pub returns-in-Ok-clause-keeps : goal.returns-in-Ok-clause-keeps
returns-in-Ok-clause-keeps c = λ w h.
    subst (λ (r : Result Call Bad). KeepsAs c.perform.result.settled c.args.core.now c.perform.new.core w (post_call c.args.ids.now w r).1)
    (sym c.in-Ok.ensures.gives) (c.perform.ensures.keeps w h)

pub returns-in-Err-clause-keeps : goal.returns-in-Err-clause-keeps
returns-in-Err-clause-keeps c = λ w h.
    dismissed_keeps c.args.ids.now c.args.path.now c.args.body.now c.args.core.now c.in-Err.bad c.dismissed.result
    (fault_of_reading c.in-Err.bad) c.in-Err.ensures.gives c.dismissed.ensures w
