use Rattle.std.proofs.Common.{◌≡◌, length}
use Rattle.version_table.specs.Rising.{retracted}
use Rattle.version_table.proofs.table.VersionTable.retract.Given as goal

abbrev pub invariant-taking : goal.invariant-taking
invariant-taking l = retracted l.main l.self ≡ retracted l.main l.fn.self

abbrev pub decreases-taking : goal.decreases-taking
decreases-taking l = length l.self
