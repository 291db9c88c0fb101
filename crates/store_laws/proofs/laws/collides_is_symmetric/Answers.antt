use Rattle.store_laws.proofs.SmallLaws.{collides-comm}
use Rattle.store_laws.proofs.laws.collides_is_symmetric.Goals as goal

pub returns : goal.returns
returns c = collides-comm
