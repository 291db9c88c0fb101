use Rattle.json_gateway.proofs.Events.{message_steps}
use Rattle.json_gateway.proofs.wire.step_deliver.Goals as goal

pub returns-clause-steps : goal.returns-clause-steps
returns-clause-steps c = λ w h.
    message_steps c.args.ids.now w c.args.number c.message.result c.args.core.now c.message.new.core h c.message.ensures.told
    c.message.ensures.stands c.message.ensures.unchanged c.message.ensures.others
