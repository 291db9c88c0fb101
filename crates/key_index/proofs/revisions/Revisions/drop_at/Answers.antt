-- What is left still rises.
use Rattle.std.proofs.Common.{not}
use Rattle.store_laws.proofs.Rising.{rising-filter}
use Rattle.key_index.specs.KeyRevisions.{is_rev}
use Rattle.key_index.proofs.revisions.Revisions.drop_at.Goals as goal

pub invariant_of-self : goal.invariant_of-self
invariant_of-self c = (
  rw (c.settle.ensures.same, c.drop_at.ensures) (rising-filter (λ q. q) (λ q. not (is_rev c.args.rev q)) _ c.self.invariant.0),
  c.settle.ensures.settled,
)
