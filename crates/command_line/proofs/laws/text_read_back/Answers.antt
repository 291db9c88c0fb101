use Rattle.command_line.proofs.ReadBack.{read_back}
use Rattle.command_line.proofs.laws.text_read_back.Goals as goal

pub returns : goal.returns
returns c = read_back
