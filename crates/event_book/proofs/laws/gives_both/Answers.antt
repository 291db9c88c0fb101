use Rattle.event_book.proofs.Giving.{gives_both}
use Rattle.event_book.proofs.laws.gives_both.Goals as goal

pub returns : goal.returns
returns c = gives_both
