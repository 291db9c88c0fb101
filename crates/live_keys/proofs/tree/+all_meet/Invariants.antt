use Rattle.std.proofs.Common.{length}
use Rattle.live_keys.proofs.tree.+all_meet.Given as goal

abbrev pub decreases-all_meet : goal.decreases-all_meet
decreases-all_meet l = length l.levels.now
