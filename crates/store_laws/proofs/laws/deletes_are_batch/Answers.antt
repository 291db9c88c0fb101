use Rattle.store_laws.proofs.StandsCommands.{delete_batch}
use Rattle.store_laws.proofs.laws.deletes_are_batch.Goals as goal

pub returns : goal.returns
returns c = delete_batch
