use Rattle.store_laws.proofs.KeyLaws.{live-same}
use Rattle.store_laws.proofs.laws.live_keys_are_by_value.Goals as goal

pub returns : goal.returns
returns c = live-same
