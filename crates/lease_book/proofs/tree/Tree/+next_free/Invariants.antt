use Rattle.std.proofs.Common.{length}
use Rattle.lease_book.proofs.tree.Tree.+next_free.Given as goal

abbrev pub decreases-next_free : goal.decreases-next_free
decreases-next_free l = length l.self.now
