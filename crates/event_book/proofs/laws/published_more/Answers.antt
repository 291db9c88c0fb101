use Rattle.event_book.proofs.Publishing.{published_more}
use Rattle.event_book.proofs.laws.published_more.Goals as goal

pub returns : goal.returns
returns c = published_more
