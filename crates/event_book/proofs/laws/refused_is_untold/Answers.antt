use Rattle.event_book.proofs.Publishing.{refused_is_untold}
use Rattle.event_book.proofs.laws.refused_is_untold.Goals as goal

pub returns : goal.returns
returns c = refused_is_untold
