use Rattle.json_gateway.proofs.Events.{moment_steps}
use Rattle.engine_lock.proofs.Stepping.{makes_moment}
use Rattle.engine_lock.proofs.steps.moved.Goals as goal

pub returns-clause-stands : goal.returns-clause-stands
returns-clause-stands c = λ w h. (c.moment.ensures.stands w h).0

pub returns-clause-makes : goal.returns-clause-makes
returns-clause-makes c = λ ids fed. makes_moment ids c.args.now c.moment.result c.args.core.now c.moment.new.self fed
    c.moment.ensures.stands c.moment.ensures.kept

pub returns-clause-steps : goal.returns-clause-steps
returns-clause-steps c = λ ids w h.
    let after = c.moment.ensures.stands w h in
    moment_steps ids w c.args.now c.moment.result c.args.core.now c.moment.new.self c.moment.ensures.made after.0 after.1
