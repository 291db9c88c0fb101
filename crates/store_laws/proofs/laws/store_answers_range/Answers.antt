use Rattle.store_laws.proofs.StandsCommands.{range_made}
use Rattle.store_laws.proofs.laws.store_answers_range.Goals as goal

pub returns : goal.returns
returns c = range_made
