use Rattle.trim_core.proofs.Fewer.{fewer-trimmed}
use Rattle.trim_core.proofs.laws.fewer_stay_trimmed.Goals as goal

pub returns : goal.returns
returns c = fewer-trimmed
