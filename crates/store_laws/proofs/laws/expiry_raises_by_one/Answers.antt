use Rattle.store_laws.proofs.RaiseLaws.{expiry_raises}
use Rattle.store_laws.proofs.laws.expiry_raises_by_one.Goals as goal

pub returns : goal.returns
returns c = expiry_raises
