use Rattle.store_laws.proofs.GrowthLaws.{dress-extend}
use Rattle.store_laws.proofs.laws.dress_goes_on.Goals as goal

pub returns : goal.returns
returns c = dress-extend
