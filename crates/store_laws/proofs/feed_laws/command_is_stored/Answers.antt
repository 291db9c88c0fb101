use Rattle.store_laws.proofs.ChangeLaws.{command_stored}
use Rattle.store_laws.proofs.feed_laws.command_is_stored.Goals as goal

pub returns : goal.returns
returns c = command_stored
