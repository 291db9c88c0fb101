use Rattle.std.proofs.Common.{◌≡◌, length}
use Rattle.watch_hub.specs.Messages.{first_tally, tallied}
use Rattle.watch_hub.proofs.message.last_behind.Given as goal

abbrev pub invariant-loop-version : goal.invariant-loop-version
invariant-loop-version l = tallied l.tally l.walk ≡ tallied (first_tally l.first) l.fn.walk

abbrev pub decreases-loop-version : goal.decreases-loop-version
decreases-loop-version l = length l.walk
