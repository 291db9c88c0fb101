use Rattle.store_laws.proofs.FeedLaws.{command_one}
use Rattle.store_laws.proofs.feed_laws.command_is_one_change.Goals as goal

pub returns : goal.returns
returns c = command_one
