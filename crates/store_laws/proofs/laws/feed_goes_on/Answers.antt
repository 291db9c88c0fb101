use Rattle.store_laws.proofs.Openings.{feed_on}
use Rattle.store_laws.proofs.laws.feed_goes_on.Goals as goal

pub returns : goal.returns
returns c = feed_on
