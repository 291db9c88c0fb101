use Rattle.std.proofs.Common.{◌≡◌, ◌++◌, length}
use Rattle.witness_core.proofs.dump.copies.Given as goal

abbrev pub invariant-loop-version : goal.invariant-loop-version
invariant-loop-version l = l.copies.items ++ l.versions ≡ l.fn.view.versions

abbrev pub decreases-loop-version : goal.decreases-loop-version
decreases-loop-version l = length l.versions
