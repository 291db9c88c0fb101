use Rattle.std.proofs.Common.{◌≡◌, length}
use Rattle.key_index.specs.KeyRevisions.{undone}
use Rattle.key_index.proofs.revisions.undo.Given as goal

abbrev pub invariant-loop-revisions : goal.invariant-loop-revisions
invariant-loop-revisions l = undone l.main l.revisions.items ≡ undone l.main l.fn.revisions.items

abbrev pub decreases-loop-revisions : goal.decreases-loop-revisions
decreases-loop-revisions l = length l.revisions.items
