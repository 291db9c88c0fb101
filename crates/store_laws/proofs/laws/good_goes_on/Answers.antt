use Rattle.store_laws.proofs.BatchLaws.{good-grows}
use Rattle.store_laws.proofs.laws.good_goes_on.Goals as goal

pub returns : goal.returns
returns c = good-grows
