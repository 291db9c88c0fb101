use Rattle.store_laws.proofs.StandsCommands.{put_told}
use Rattle.store_laws.proofs.laws.store_tells_put.Goals as goal

pub returns : goal.returns
returns c = put_told
