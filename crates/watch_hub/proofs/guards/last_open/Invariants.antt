use Rattle.std.proofs.Common.{◌≤◌}
use Rattle.watch_hub.specs.Guards.{ArePast}
use Rattle.watch_hub.proofs.guards.last_open.Given as goal

-- the key is behind those that were passed
abbrev pub invariant-loop-left : goal.invariant-loop-left
invariant-loop-left l = (l.left ≤ l.count) × ArePast l.guards l.key l.left l.count

abbrev pub decreases-loop-left : goal.decreases-loop-left
decreases-loop-left l = l.left
