use Rattle.engine_lock.proofs.OrderLaws.{expiry_makes, expiry_refused}
use Rattle.command_line.proofs.control.expired.Goals as goal

pub returns-in-Ok : goal.returns-in-Ok
returns-in-Ok g c = expiry_makes c.args.events.now.engine.now.ids _ _ 0 c.in-Ok.expiry c.in-Ok.ensures

pub returns-in-Err : goal.returns-in-Err
returns-in-Err g c = expiry_refused c.args.events.now.engine.now.ids _ _ 0 c.in-Err.refusal c.why_unexpired.result c.in-Err.ensures c.why_unexpired.ensures
