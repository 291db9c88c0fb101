-- The map has it in its place.
use Rattle.std.proofs.Common.{refl, ◌∙◌}
use Rattle.key_index.specs.KeyRevisions.{without}
use Rattle.key_index.proofs.InPlace.{cut-changed}
use Rattle.key_index.proofs.changes.drop_at.Goals as goal

pub returns : goal.returns
returns c = c.cut.ensures.pairs ∙ cut-changed (without c.args.rev) refl c.args.key.now c.args.keys.now
