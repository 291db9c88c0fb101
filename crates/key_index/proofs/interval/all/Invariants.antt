use Rattle.std.proofs.Common.{◌≡◌, ◌++◌, length, map}
use Rattle.key_index.specs.Lent.{entry_of}
use Rattle.key_index.proofs.interval.all.Given as goal

abbrev pub invariant-listing : goal.invariant-listing
invariant-listing l = map entry_of l.keys.items ++ l.walk ≡ l.fn.walk

abbrev pub decreases-listing : goal.decreases-listing
decreases-listing l = length l.walk
