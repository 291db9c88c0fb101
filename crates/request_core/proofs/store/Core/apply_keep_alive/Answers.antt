use Rattle.std.proofs.lemmas.Int.{to_z-of_z}
use Rattle.std.specs.Int.{w64}
use Rattle.request_core.proofs.Leases.{keep_alive_done}
use Rattle.request_core.proofs.store.Core.apply_keep_alive.Goals as goal

pub returns-clause-done : goal.returns-clause-done
returns-clause-done c =
    let found = rw (to_z-of_z w64 c.args.id c.ranges.id) at c.keep_alive-ttl.ensures.ttl in
    let made = rw (to_z-of_z w64 c.args.id c.ranges.id) at c.keep_alive-ttl.ensures.made in
    rw (to_z-of_z w64 c.args.id c.ranges.id)
    (keep_alive_done c.args.self.now c.keep_alive-ttl.new.self c.args.id c.keep_alive-ttl.result found made)
