use Rattle.event_book.proofs.Raising.{raised_all}
use Rattle.event_book.proofs.laws.raised_all.Goals as goal

pub returns : goal.returns
returns c = raised_all
