use Rattle.store_laws.proofs.ChangeLaws.{expiry_stored}
use Rattle.store_laws.proofs.feed_laws.expiry_is_stored.Goals as goal

pub returns : goal.returns
returns c = expiry_stored
