use Rattle.std.proofs.Common.{List, ◌++◌, Vec, length}
use Rattle.std.specs.declared.alloc.Global.{Global}
use Rattle.live_keys.specs.declared.extremes.Extremes.{Extremes}
use Rattle.live_keys.specs.Extremes.{of_two, AreLevels}
use Rattle.live_keys.specs.Parts.{pairs_by}
use Rattle.live_keys.proofs.tree.tree_over.Given as goal

-- levels over the last made one are, behind those so far, levels over the list
abbrev pub invariant-loop-alloc : goal.invariant-loop-alloc
invariant-loop-alloc l = (rest : List (Vec Extremes Global)) → AreLevels l.field l.level.items rest
    → AreLevels l.field (pairs_by (of_two l.field) l.kvs) (l.levels.items ++ rest)

abbrev pub decreases-loop-alloc : goal.decreases-loop-alloc
decreases-loop-alloc l = length l.level.items
