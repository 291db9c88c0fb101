use Rattle.event_book.proofs.Raising.{raised_adds}
use Rattle.event_book.proofs.laws.raised_adds.Goals as goal

pub returns : goal.returns
returns c = raised_adds
