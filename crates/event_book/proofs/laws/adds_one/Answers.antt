use Rattle.event_book.proofs.Giving.{adds_one}
use Rattle.event_book.proofs.laws.adds_one.Goals as goal

pub returns : goal.returns
returns c = adds_one
