use Rattle.store_laws.proofs.BetweenSteps.{goes_on}
use Rattle.store_laws.proofs.trimming_laws.trimming_goes_on.Goals as goal

pub returns : goal.returns
returns c = goes_on
