use Rattle.std.proofs.Common.{◌≡◌, ◌++◌, length, map}
use Rattle.key_pages.specs.Pairs.{below_key}
use Rattle.key_index.specs.Lent.{entry_of}
use Rattle.key_index.proofs.interval.all_below.Given as goal

abbrev pub invariant-listing : goal.invariant-listing
invariant-listing l = map entry_of l.keys.items ++ below_key l.end l.walk ≡ below_key l.end l.fn.walk

abbrev pub decreases-listing : goal.decreases-listing
decreases-listing l = length l.walk
