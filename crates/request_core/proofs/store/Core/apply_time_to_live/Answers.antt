use Rattle.std.proofs.lemmas.Int.{to_z-of_z}
use Rattle.std.specs.Int.{w64}
use Rattle.request_core.proofs.Leases.{time_to_live_done}
use Rattle.request_core.proofs.store.Core.apply_time_to_live.Goals as goal

pub returns : goal.returns
returns c = rw (to_z-of_z w64 c.args.id c.ranges.id) (time_to_live_done c.args.self.now c.args.id c.args.keys)
