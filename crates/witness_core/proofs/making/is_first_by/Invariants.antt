use Rattle.std.proofs.Common.{◌≡◌, length}
use Rattle.witness_core.specs.Making.{is_first_by}
use Rattle.witness_core.proofs.making.is_first_by.Given as goal

abbrev pub invariant-loop-version : goal.invariant-loop-version
invariant-loop-version l = is_first_by l.fn.place l.fn.revision l.fn.versions ≡ is_first_by l.fn.place l.fn.revision l.versions

abbrev pub decreases-loop-version : goal.decreases-loop-version
decreases-loop-version l = length l.versions
