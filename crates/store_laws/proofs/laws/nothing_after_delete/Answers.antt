use Rattle.store_laws.proofs.SmallLaws.{nothing_after}
use Rattle.store_laws.proofs.laws.nothing_after_delete.Goals as goal

pub returns : goal.returns
returns c = nothing_after
