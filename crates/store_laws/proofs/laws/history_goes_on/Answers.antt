use Rattle.store_laws.proofs.BatchLaws.{history-more}
use Rattle.store_laws.proofs.laws.history_goes_on.Goals as goal

pub returns : goal.returns
returns c = history-more
