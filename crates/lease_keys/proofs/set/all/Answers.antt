use Rattle.lease_keys.proofs.Sets.{ascending-sorted}
use Rattle.lease_keys.proofs.set.all.Goals as goal

pub returns-clause-ascending : goal.returns-clause-ascending
returns-clause-ascending c = ascending-sorted c.args.keys.now.keys c.iter.ensures.ordered
