use Rattle.store_laws.proofs.FeedLaws.{stores_part}
use Rattle.store_laws.proofs.feed_laws.reader_stores_part.Goals as goal

pub returns : goal.returns
returns c = stores_part
