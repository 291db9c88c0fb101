use Rattle.std.proofs.Common.{length}
use Rattle.version_table.proofs.galloping.+backward.Given as goal

abbrev pub decreases-backward : goal.decreases-backward
decreases-backward l = length l.pages.now
