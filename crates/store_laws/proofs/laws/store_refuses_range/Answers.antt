use Rattle.store_laws.proofs.StandsCommands.{range_refused}
use Rattle.store_laws.proofs.laws.store_refuses_range.Goals as goal

pub returns : goal.returns
returns c = range_refused
