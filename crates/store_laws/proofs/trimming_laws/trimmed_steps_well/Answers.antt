use Rattle.store_laws.proofs.RuleLaws.{steps-well}
use Rattle.store_laws.proofs.trimming_laws.trimmed_steps_well.Goals as goal

pub returns : goal.returns
returns c = steps-well
