use Rattle.std.proofs.Common.{◌∙◌}
use Rattle.json_gateway.proofs.Events.{close_steps}
use Rattle.json_gateway.proofs.wire.step_close.Goals as goal

pub returns-clause-steps : goal.returns-clause-steps
returns-clause-steps c = λ ids w h.
    close_steps ids w c.args.number c.is_ok.result c.args.core.now c.cancel.new.self (c.is_ok.ensures.value ∙ c.cancel.ensures.stood w h)
    (c.cancel.ensures.stands w h) c.cancel.ensures.others
