use Rattle.std.proofs.Common.{◌≡◌, length}
use Rattle.key_index.specs.Index.{is_up_to}
use Rattle.key_index.proofs.index.is_up_to.Given as goal

abbrev pub invariant-walking : goal.invariant-walking
invariant-walking l = is_up_to l.main l.walk ≡ is_up_to l.main l.fn.walk

abbrev pub decreases-walking : goal.decreases-walking
decreases-walking l = length l.walk
