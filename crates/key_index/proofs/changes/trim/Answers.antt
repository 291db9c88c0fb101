-- The map has it in its place.
use Rattle.std.proofs.Common.{cond, sym, ◌∙◌, ap}
use Rattle.key_index.specs.KeyRevisions.{is_followed}
use Rattle.key_index.specs.Index.{found, revisions, with_revisions, without_revision}
use Rattle.key_index.proofs.InPlace.{told-goes, trimmed-changed}
use Rattle.key_index.proofs.changes.trim.Goals as goal

pub returns-clause-value : goal.returns-clause-value
returns-clause-value c =
    let k = c.args.key.now in
    let i = c.args.keys.now in
    c.cut.ensures.pairs
    ∙ trimmed-changed c.args.rev c.args.anyway (is_followed c.args.rev c.args.main) k i
    ∙ ap (λ b. cond b (without_revision k c.args.rev i) (with_revisions k (revisions k i) i))
    (sym (ap (λ t. t.goes) c.cut.ensures.told ∙ told-goes _ (found k i)))
