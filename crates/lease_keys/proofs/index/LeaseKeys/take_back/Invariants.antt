use Rattle.std.proofs.Common.{length}
use Rattle.kv_model.specs.History.{value_at}
use Rattle.lease_keys.proofs.Holding.{TakesOn}
use Rattle.lease_keys.proofs.index.LeaseKeys.take_back.Given as goal

abbrev pub invariant-loop-version : goal.invariant-loop-version
invariant-loop-version l = TakesOn l.versions l.fn.versions (value_at l.before.versions l.before.place) l.fn.self l.self

abbrev pub decreases-loop-version : goal.decreases-loop-version
decreases-loop-version l = length l.versions
