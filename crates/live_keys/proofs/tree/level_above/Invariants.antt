use Rattle.std.proofs.Common.{◌≡◌, ◌++◌, length}
use Rattle.live_keys.specs.Extremes.{joined}
use Rattle.live_keys.specs.Parts.{pairs_by}
use Rattle.live_keys.proofs.tree.level_above.Given as goal

-- what is made so far, and behind it what the rest gives, is what all gives
abbrev pub invariant-loop-rest : goal.invariant-loop-rest
invariant-loop-rest l = l.level.items ++ pairs_by (joined l.field) l.rest ≡ pairs_by (joined l.field) l.below

abbrev pub decreases-loop-rest : goal.decreases-loop-rest
decreases-loop-rest l = length l.rest
