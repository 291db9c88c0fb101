use Rattle.store_laws.proofs.RuleLaws.{done-trimmed}
use Rattle.store_laws.proofs.trimming_laws.done_is_trimmed.Goals as goal

pub returns : goal.returns
returns c = done-trimmed
