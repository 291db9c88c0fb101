use Rattle.store_laws.proofs.BetweenSteps.{starts_over}
use Rattle.store_laws.proofs.trimming_laws.trimming_starts_over.Goals as goal

pub returns : goal.returns
returns c = starts_over
