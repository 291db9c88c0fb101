-- It stays an index, and bound.
use Rattle.std.proofs.Common.{drop}
use Rattle.key_index.proofs.Bounds.{bound-changed, up_to-front}
use Rattle.key_index.proofs.index.KeyIndex.drop_front.Goals as goal

pub invariant_of-self : goal.invariant_of-self
invariant_of-self c =
    let n = c.self.inside.newest in
    rw c.drop_front.ensures (bound-changed (drop 1) n (up_to-front n) c.args.key.now _ c.self.invariant)
