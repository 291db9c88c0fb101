use Rattle.txn_core.proofs.Clashing.{opposite_branches}
use Rattle.txn_core.proofs.clash.opposite_branches_do_not_clash.Goals as goal

pub returns : goal.returns
returns c = opposite_branches
