-- It stays an index, and bound.
use Rattle.key_index.specs.KeyRevisions.{without}
use Rattle.key_index.proofs.Bounds.{bound-changed, up_to-without}
use Rattle.key_index.proofs.index.KeyIndex.remove.Goals as goal

pub invariant_of-self : goal.invariant_of-self
invariant_of-self c =
    let n = c.self.inside.newest in
    rw c.drop_at.ensures (bound-changed (without c.args.rev) n (up_to-without n c.args.rev) c.args.key.now _ c.self.invariant)
