use Rattle.std.proofs.Common.{◌≡◌, length}
use Rattle.key_index.specs.Index.{IsBound, IsIndex, retracted}
use Rattle.range_view.proofs.growth.unindex.Given as goal

abbrev pub invariant-loop-slice : goal.invariant-loop-slice
invariant-loop-slice l = record {
  bound : IsIndex l.index × IsBound l.main l.index;
  rest : retracted l.main l.changes l.index ≡ retracted l.main l.initial.changes l.fn.index;
}

abbrev pub decreases-loop-slice : goal.decreases-loop-slice
decreases-loop-slice l = length l.changes
