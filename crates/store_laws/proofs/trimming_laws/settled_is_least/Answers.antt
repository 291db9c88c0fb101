use Rattle.store_laws.proofs.LeastLaws.{settled-least}
use Rattle.store_laws.proofs.trimming_laws.settled_is_least.Goals as goal

pub returns : goal.returns
returns c = settled-least
