use Rattle.store_laws.proofs.Openings.{empty_run}
use Rattle.store_laws.proofs.laws.empty_run_is_run.Goals as goal

pub returns : goal.returns
returns c = empty_run
