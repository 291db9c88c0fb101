use Rattle.event_book.proofs.Publishing.{published_says}
use Rattle.event_book.proofs.laws.published_says.Goals as goal

pub returns : goal.returns
returns c = published_says
