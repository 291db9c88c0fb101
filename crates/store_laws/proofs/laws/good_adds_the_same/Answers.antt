use Rattle.store_laws.proofs.BatchLaws.{good-added, dress-added}
use Rattle.store_laws.proofs.laws.good_adds_the_same.Goals as goal

pub returns : goal.returns
returns c = λ vs ms us c g h f. (good-added vs ms us c g h f, dress-added ms us)
