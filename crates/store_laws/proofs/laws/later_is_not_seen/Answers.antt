use Rattle.store_laws.proofs.PlaceLaws.{value_at-behind}
use Rattle.store_laws.proofs.laws.later_is_not_seen.Goals as goal

pub returns : goal.returns
returns c = value_at-behind
