use Rattle.std.proofs.Common.{◌≡◌}
use Rattle.std.specs.Iterator.Adapters.{zip_first, zip_second}
use Rattle.std.specs.Slice.Iter.{iter_rest}
use Rattle.witness_core.specs.Walks.{walked}
use Rattle.witness_core.proofs.checking.claims_fault.Given as goal

abbrev pub invariant-loop-version : goal.invariant-loop-version
invariant-loop-version l =
    walked l.fn.dump l.fn.dump.versions l.nexts l.fn.claims
    ≡ walked l.fn.dump (iter_rest (zip_first l.version-iterator)) (iter_rest (zip_second l.version-iterator)) (iter_rest l.claims)
