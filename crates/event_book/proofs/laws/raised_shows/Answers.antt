use Rattle.event_book.proofs.Raising.{raised_shows}
use Rattle.event_book.proofs.laws.raised_shows.Goals as goal

pub returns : goal.returns
returns c = raised_shows
