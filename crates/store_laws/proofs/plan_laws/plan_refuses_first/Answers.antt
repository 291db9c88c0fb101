use Rattle.store_laws.proofs.Planning.{plan_refuses}
use Rattle.store_laws.proofs.plan_laws.plan_refuses_first.Goals as goal

pub returns : goal.returns
returns c = plan_refuses
