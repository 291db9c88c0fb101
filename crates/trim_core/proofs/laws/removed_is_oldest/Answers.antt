use Rattle.trim_core.proofs.Oldest.{removed-oldest}
use Rattle.trim_core.proofs.laws.removed_is_oldest.Goals as goal

pub returns : goal.returns
returns c = removed-oldest
