use Rattle.store_laws.proofs.Planning.{store_plans}
use Rattle.store_laws.proofs.plan_laws.store_plans_txn.Goals as goal

pub returns : goal.returns
returns c = store_plans
