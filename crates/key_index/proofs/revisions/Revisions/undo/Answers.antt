-- What is left still rises.
use Rattle.key_index.proofs.KeyRevisions.{rising-undone}
use Rattle.key_index.proofs.revisions.Revisions.undo.Goals as goal

pub invariant_of-self : goal.invariant_of-self
invariant_of-self c = (
  rw (c.settle.ensures.same, c.undo.ensures) (rising-undone c.args.main _ c.self.invariant.0),
  c.settle.ensures.settled,
)
