use Rattle.std.proofs.Common.{refl}
use Rattle.json_gateway.proofs.Events.{moment_steps}
use Rattle.request_core.specs.Apart.{joined}
use Rattle.engine_lock.proofs.Stepping.{makes_moment}
use Rattle.engine_lock.proofs.steps.moved_apart.Goals as goal

pub returns-clause-stands : goal.returns-clause-stands
returns-clause-stands c = λ t w h. (c.moment.ensures.stands t w h).0

pub returns-clause-makes : goal.returns-clause-makes
returns-clause-makes c = λ ids t fed. makes_moment ids c.args.now c.moment.result (joined t c.args.rest.now) (joined t c.moment.new.self) fed
    (c.moment.ensures.stands t) refl

pub returns-clause-steps : goal.returns-clause-steps
returns-clause-steps c = λ ids t w h.
    let after = c.moment.ensures.stands t w h in
    moment_steps ids w c.args.now c.moment.result (joined t c.args.rest.now) (joined t c.moment.new.self) (c.moment.ensures.made t) after.0 after.1
