use Rattle.request_core.proofs.Leases.{leases_done}
use Rattle.request_core.proofs.store.Core.apply_leases.Goals as goal

pub returns : goal.returns
returns c = leases_done c.args.self.now
