-- It stays an index, and none of it is above the newest.
use Rattle.key_index.proofs.Entries.{index-with_revision}
use Rattle.key_index.proofs.Bounds.{bound-with_revision}
use Rattle.key_index.proofs.index.KeyIndex.put.Goals as goal

pub invariant_of-self-2 : goal.invariant_of-self-2
invariant_of-self-2 c = rw (c.in_ok-put.ensures.ok, c.in_ok-put.ensures.newest) (
  index-with_revision c.args.key.now c.args.rev _ c.self.invariant.0,
  bound-with_revision c.self.inside.newest c.args.key.now c.args.rev _ c.self.invariant.1,
)
