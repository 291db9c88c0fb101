use Rattle.event_book.proofs.Giving.{shows_none}
use Rattle.event_book.proofs.laws.shows_none.Goals as goal

pub returns : goal.returns
returns c = shows_none
