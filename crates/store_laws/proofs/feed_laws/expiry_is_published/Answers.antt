use Rattle.store_laws.proofs.FeedLaws.{expiry_published}
use Rattle.store_laws.proofs.feed_laws.expiry_is_published.Goals as goal

pub returns : goal.returns
returns c = expiry_published
