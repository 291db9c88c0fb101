use Rattle.command_line.proofs.Recorded.{recording_is_script}
use Rattle.command_line.proofs.laws.recording_is_script.Goals as goal

pub returns : goal.returns
returns c = recording_is_script
