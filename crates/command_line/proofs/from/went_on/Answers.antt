use Rattle.command_line.proofs.Beginning.{stopped}
use Rattle.command_line.proofs.from.went_on.Goals as goal

pub returns-in-Ok-clause-begins : goal.returns-in-Ok-clause-begins
returns-in-Ok-clause-begins g c = (_, _, c.requires, c.in-Ok.ensures.ok)

pub returns-in-Err-clause-fault : goal.returns-in-Err-clause-fault
returns-in-Err-clause-fault g c = stopped _ _ c.in-Err.fault _ _ c.requires c.in-Err.ensures.fault
