use Rattle.request_core.proofs.Trimming.{trims_once}
use Rattle.request_core.proofs.store.Core.trim_step.Goals as goal

pub returns : goal.returns
returns c = trims_once c.args.self.now c.trim_tables-trim.new.self c.count_trim.new.self c.trim_tables-trim.result
    c.trim_tables-trim.ensures c.count_trim.ensures
