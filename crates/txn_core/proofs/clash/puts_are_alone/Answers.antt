use Rattle.txn_core.proofs.Clashing.{put_alone}
use Rattle.txn_core.proofs.clash.puts_are_alone.Goals as goal

pub returns : goal.returns
returns c = put_alone
