use Rattle.std.proofs.Common.{◌++◌}
use Rattle.json_gateway.proofs.Events.{trim_steps}
use Rattle.engine_lock.proofs.Stepping.{checked_trimming}
use Rattle.engine_lock.proofs.steps.trimmed_and_checked.Goals as goal

pub returns-clause-makes : goal.returns-clause-makes
returns-clause-makes c = λ ids fed. checked_trimming ids c.in_ok-step.step _ c.args.core.now c.trimmed.new.core (fed ++ c.args.ops.now) (fed ++ c.trimmed.new.ops) (c.in_ok-step.ensures.makes ids fed)

pub returns-clause-steps : goal.returns-clause-steps
returns-clause-steps c = λ ids w h.
    let (certificate, told, own) = c.trimmed-2.ensures in
    rw told (trim_steps ids w c.in_ok-step.step certificate c.args.core.now c.trimmed.new.core c.in_ok-step.ensures.trims own h)
