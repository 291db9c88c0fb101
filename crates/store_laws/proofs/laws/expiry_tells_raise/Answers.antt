use Rattle.store_laws.proofs.RaiseLaws.{expiry_tells}
use Rattle.store_laws.proofs.laws.expiry_tells_raise.Goals as goal

pub returns : goal.returns
returns c = expiry_tells
