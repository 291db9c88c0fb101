use Rattle.store_laws.proofs.SmallLaws.{first_after}
use Rattle.store_laws.proofs.laws.first_after_delete.Goals as goal

pub returns : goal.returns
returns c = first_after
