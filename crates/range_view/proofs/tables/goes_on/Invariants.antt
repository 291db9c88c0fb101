use Rattle.std.proofs.Common.{◌≡◌, drop}
use Rattle.range_view.specs.Stored.{goes_on}
use Rattle.range_view.proofs.tables.goes_on.Given as goal

abbrev pub invariant-loop-version : goal.invariant-loop-version
invariant-loop-version l = goes_on l.fn.first l.versions ≡ goes_on l.last (drop l.version-index l.versions)
