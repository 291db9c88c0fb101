use Rattle.std.proofs.Common.{◌≡◌, ◌++◌, take}
use Rattle.range_view.specs.Stored.{AreTied}
use Rattle.range_view.proofs.growth.add_all.Given as goal

abbrev pub invariant-loop-version : goal.invariant-loop-version
invariant-loop-version l = record {
  tied : AreTied l.index l.table;
  table : l.table ≡ l.fn.table ++ take l.version-index l.fn.versions;
}
