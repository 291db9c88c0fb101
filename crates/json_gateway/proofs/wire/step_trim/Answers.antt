use Rattle.json_gateway.proofs.Events.{trim_steps}
use Rattle.json_gateway.proofs.wire.step_trim.Goals as goal

pub returns-clause-steps : goal.returns-clause-steps
returns-clause-steps c = λ ids w h.
    let (certificate, told, own) = c.trimmed.ensures in
    rw told (trim_steps ids w c.trim_step-trim.result certificate c.args.core.now c.trim_step-trim.new.self c.trim_step-trim.ensures own h)
