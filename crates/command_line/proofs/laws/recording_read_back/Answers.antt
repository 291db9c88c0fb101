use Rattle.command_line.proofs.Recorded.{recording_read_back}
use Rattle.command_line.proofs.laws.recording_read_back.Goals as goal

pub returns : goal.returns
returns c = recording_read_back
