use Rattle.std.proofs.Common.{rules}
use Rattle.request_core.proofs.Leases.{none-granted}
use Rattle.request_core.proofs.store.Core.keep_alive.Goals as goal

pub returns-then-not-is_granted-clause-ttl : goal.returns-then-not-is_granted-clause-ttl
returns-then-not-is_granted-clause-ttl c = none-granted c.args.self.now.store.leases c.args.id (search rules)
