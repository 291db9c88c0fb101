use Rattle.store_laws.proofs.SmallLaws.{empty_range}
use Rattle.store_laws.proofs.laws.empty_range_is_empty.Goals as goal

pub returns : goal.returns
returns c = empty_range
