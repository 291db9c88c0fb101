-- It stays an index, and bound.
use Rattle.std.proofs.Common.{cond, ◌∙◌, ap}
use Rattle.key_index.specs.Index.{without_revision}
use Rattle.key_index.proofs.Bounds.{bound-trimmed}
use Rattle.key_index.proofs.InPlace.{same-revisions}
use Rattle.key_index.proofs.index.KeyIndex.trim.Goals as goal

pub invariant_of-self : goal.invariant_of-self
invariant_of-self c =
    rw c.trim.ensures.value (bound-trimmed c.args.rev c.trim.result c.self.inside.newest c.args.key.now c.self.inside.keys c.self.invariant)

pub returns-clause-value : goal.returns-clause-value
returns-clause-value c =
    let k = c.args.key.now in
    c.trim.ensures.value
    ∙ ap (cond c.trim.result (without_revision k c.args.rev c.self.inside.keys)) (same-revisions k c.self.inside.keys c.self.invariant.0)
    ∙ ap (λ i. cond c.trim.result (without_revision k c.args.rev i) i) c.self.view_is
