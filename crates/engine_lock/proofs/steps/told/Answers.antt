use Rattle.std.proofs.Common.{ap}
use Rattle.request_core.specs.State.{tables_of}
use Rattle.engine_lock.proofs.Stepping.{makes_delivery}
use Rattle.engine_lock.proofs.steps.told.Goals as goal

pub returns : goal.returns
returns c = λ fed. makes_delivery c.args.ids.now c.args.number c.message.result c.args.core.now c.message.new.core fed
    c.message.ensures.told c.message.ensures.stands c.message.ensures.unchanged (ap tables_of c.message.ensures.others)
