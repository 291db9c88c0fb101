use Rattle.store_laws.proofs.GoodLaws.{good-range_answer}
use Rattle.store_laws.proofs.laws.good_answers_the_same.Goals as goal

pub returns : goal.returns
returns c = good-range_answer
