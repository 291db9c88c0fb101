use Rattle.store_laws.proofs.WatchLaws.{noted_stands}
use Rattle.store_laws.proofs.laws.store_goes_on.Goals as goal

pub returns : goal.returns
returns c = noted_stands
