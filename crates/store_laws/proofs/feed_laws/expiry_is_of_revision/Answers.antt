use Rattle.store_laws.proofs.ChangeLaws.{expiry_of_revision}
use Rattle.store_laws.proofs.feed_laws.expiry_is_of_revision.Goals as goal

pub returns : goal.returns
returns c = expiry_of_revision
