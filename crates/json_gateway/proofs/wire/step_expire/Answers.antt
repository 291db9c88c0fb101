use Rattle.json_gateway.proofs.Events.{expired_steps, unexpired_steps}
use Rattle.json_gateway.proofs.wire.step_expire.Goals as goal

pub returns-in-Ok-clause-steps : goal.returns-in-Ok-clause-steps
returns-in-Ok-clause-steps c = λ ids w h.
    expired_steps ids w c.in-Ok.expiry c.args.core.now c.expire.new.self (c.in-Ok.ensures.done.expired w h)

pub returns-in-Err-clause-steps : goal.returns-in-Err-clause-steps
returns-in-Err-clause-steps c = λ ids w h.
    unexpired_steps ids w c.in-Err.refusal c.why_unexpired.result c.args.core.now c.expire.new.self c.in-Err.ensures.refused
    c.why_unexpired.ensures h
