use Rattle.store_laws.proofs.FeedLaws.{expiry_one}
use Rattle.store_laws.proofs.feed_laws.expiry_is_one_change.Goals as goal

pub returns : goal.returns
returns c = expiry_one
