use Rattle.store_laws.proofs.Openings.{blank_good}
use Rattle.store_laws.proofs.laws.blank_stands.Goals as goal

pub returns : goal.returns
returns c = blank_good
