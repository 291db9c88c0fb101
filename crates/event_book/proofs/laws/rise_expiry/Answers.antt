use Rattle.event_book.proofs.Raising.{rise_expiry}
use Rattle.event_book.proofs.laws.rise_expiry.Goals as goal

pub returns : goal.returns
returns c = rise_expiry
