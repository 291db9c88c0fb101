use Rattle.std.proofs.Common.{◌≡◌, ◌++◌, length}
use Rattle.live_keys.specs.Extremes.{of_two}
use Rattle.live_keys.specs.Parts.{pairs_by}
use Rattle.live_keys.proofs.tree.first_level.Given as goal

-- what is made so far, and behind it what the rest gives, is what all gives
abbrev pub invariant-loop-rest : goal.invariant-loop-rest
invariant-loop-rest l = l.level.items ++ pairs_by (of_two l.field) l.rest ≡ pairs_by (of_two l.field) l.kvs

abbrev pub decreases-loop-rest : goal.decreases-loop-rest
decreases-loop-rest l = length l.rest
