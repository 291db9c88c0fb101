use Rattle.watch_hub.specs.Guards.{IsBack}
use Rattle.watch_hub.proofs.guards.back_of.Given as goal

-- those from here on up to the range end no later than it
abbrev pub invariant-loop-back : goal.invariant-loop-back
invariant-loop-back l = IsBack l.guards l.index l.back

abbrev pub decreases-loop-back : goal.decreases-loop-back
decreases-loop-back l = l.back
