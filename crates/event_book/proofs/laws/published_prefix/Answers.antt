use Rattle.event_book.proofs.Publishing.{published_prefix}
use Rattle.event_book.proofs.laws.published_prefix.Goals as goal

pub returns : goal.returns
returns c = published_prefix
