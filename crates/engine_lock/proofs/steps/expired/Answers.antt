use Rattle.engine_lock.proofs.Stepping.{makes_expiry}
use Rattle.engine_lock.proofs.steps.expired.Goals as goal

pub returns-clause-on : goal.returns-clause-on
returns-clause-on c = λ ids now fed. makes_expiry ids now c.expire_to.result c.args.core.now c.expire_to.new.self fed c.args.ops.now c.expire_to.new.sink
    c.expire_to.ensures.done c.expire_to.ensures.told c.expire_to.ensures.stored c.expire_to.ensures.refused c.expire_to.ensures.untold
