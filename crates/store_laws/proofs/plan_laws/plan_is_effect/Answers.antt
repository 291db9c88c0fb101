use Rattle.store_laws.proofs.Planning.{plan_effect}
use Rattle.store_laws.proofs.plan_laws.plan_is_effect.Goals as goal

pub returns : goal.returns
returns c = plan_effect
