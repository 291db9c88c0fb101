use Rattle.store_laws.proofs.Compacting.{last_put_least}
use Rattle.store_laws.proofs.laws.last_put_is_least.Goals as goal

pub returns : goal.returns
returns c = last_put_least
