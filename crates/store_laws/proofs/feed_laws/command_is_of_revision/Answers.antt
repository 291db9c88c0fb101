use Rattle.store_laws.proofs.ChangeLaws.{command_of_revision}
use Rattle.store_laws.proofs.feed_laws.command_is_of_revision.Goals as goal

pub returns : goal.returns
returns c = command_of_revision
