-- It stays an index, and bound.
use Rattle.key_index.specs.KeyRevisions.{undone}
use Rattle.key_index.proofs.Bounds.{bound-changed, up_to-undone}
use Rattle.key_index.proofs.index.KeyIndex.undo.Goals as goal

pub invariant_of-self : goal.invariant_of-self
invariant_of-self c =
    let n = c.self.inside.newest in
    rw c.undo.ensures (bound-changed (undone c.args.main) n (up_to-undone n c.args.main) c.args.key.now _ c.self.invariant)
