use Rattle.store_laws.proofs.RaiseLaws.{command_raises}
use Rattle.store_laws.proofs.laws.command_raises_by_one.Goals as goal

pub returns : goal.returns
returns c = command_raises
