use Rattle.event_book.proofs.Giving.{gives_theirs}
use Rattle.event_book.proofs.laws.gives_theirs.Goals as goal

pub returns : goal.returns
returns c = gives_theirs
