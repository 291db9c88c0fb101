use Rattle.event_book.proofs.Raising.{rise_command}
use Rattle.event_book.proofs.laws.rise_command.Goals as goal

pub returns : goal.returns
returns c = rise_command
