use Rattle.std.proofs.Common.{◌≡◌}
use Rattle.key_index.specs.Index.{nth_of}
use Rattle.key_index.proofs.interval.nth.Given as goal

abbrev pub invariant-passing : goal.invariant-passing
invariant-passing l = nth_of l.left l.walk ≡ nth_of l.fn.count l.fn.walk

abbrev pub decreases-passing : goal.decreases-passing
decreases-passing l = l.left
