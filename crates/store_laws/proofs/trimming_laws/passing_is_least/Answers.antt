use Rattle.store_laws.proofs.PassingLaws.{passing-least}
use Rattle.store_laws.proofs.trimming_laws.passing_is_least.Goals as goal

pub returns : goal.returns
returns c = passing-least
