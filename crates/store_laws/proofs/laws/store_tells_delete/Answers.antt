use Rattle.store_laws.proofs.StandsCommands.{delete_told}
use Rattle.store_laws.proofs.laws.store_tells_delete.Goals as goal

pub returns : goal.returns
returns c = delete_told
