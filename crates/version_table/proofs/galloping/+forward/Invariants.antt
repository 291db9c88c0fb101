use Rattle.std.proofs.Common.{length}
use Rattle.version_table.proofs.galloping.+forward.Given as goal

abbrev pub decreases-forward : goal.decreases-forward
decreases-forward l = length l.pages.now
