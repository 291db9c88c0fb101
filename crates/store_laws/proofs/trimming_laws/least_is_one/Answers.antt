use Rattle.store_laws.proofs.LeastLaws.{least-one}
use Rattle.store_laws.proofs.trimming_laws.least_is_one.Goals as goal

pub returns : goal.returns
returns c = least-one
