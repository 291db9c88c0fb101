use Rattle.store_laws.proofs.BetweenSteps.{stays_good}
use Rattle.store_laws.proofs.trimming_laws.good_stays_good.Goals as goal

pub returns : goal.returns
returns c = stays_good
