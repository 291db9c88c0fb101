use Rattle.store_laws.proofs.FeedLaws.{command_published}
use Rattle.store_laws.proofs.feed_laws.command_is_published.Goals as goal

pub returns : goal.returns
returns c = command_published
