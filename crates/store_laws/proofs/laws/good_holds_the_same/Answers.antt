use Rattle.store_laws.proofs.GoodLaws.{good-value_at}
use Rattle.store_laws.proofs.laws.good_holds_the_same.Goals as goal

pub returns : goal.returns
returns c = good-value_at
