use Rattle.command_line.proofs.ReadBack.{each_read_back}
use Rattle.command_line.proofs.laws.event_read_back.Goals as goal

pub returns : goal.returns
returns c = each_read_back
