use Rattle.store_laws.proofs.KeyLaws.{ascending-keys}
use Rattle.store_laws.proofs.laws.keys_ascend.Goals as goal

pub returns : goal.returns
returns c = ascending-keys
