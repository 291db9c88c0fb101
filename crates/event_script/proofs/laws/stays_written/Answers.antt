use Rattle.event_script.proofs.Writing.{stays_written}
use Rattle.event_script.proofs.laws.stays_written.Goals as goal

pub returns : goal.returns
returns c = stays_written
