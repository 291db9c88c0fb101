use Rattle.std.proofs.Common.{◌≡◌}
use Rattle.std.specs.Iterator.Adapters.{zip_first, zip_second}
use Rattle.std.specs.Slice.Iter.{iter_rest}
use Rattle.witness_core.specs.Walks.{first_twin}
use Rattle.witness_core.proofs.nexts.first_twin.Given as goal

abbrev pub invariant-loop-version : goal.invariant-loop-version
invariant-loop-version l =
    first_twin l.versions l.nexts ≡ first_twin (iter_rest (zip_first l.version-iterator)) (iter_rest (zip_second l.version-iterator))
