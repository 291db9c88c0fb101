use Rattle.store_laws.proofs.StandsCommands.{put_batch}
use Rattle.store_laws.proofs.laws.put_is_batch.Goals as goal

pub returns : goal.returns
returns c = put_batch
