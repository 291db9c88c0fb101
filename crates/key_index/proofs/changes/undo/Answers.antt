-- The map has it in its place.
use Rattle.std.proofs.Common.{refl, ◌∙◌}
use Rattle.key_index.specs.KeyRevisions.{undone}
use Rattle.key_index.proofs.InPlace.{cut-changed}
use Rattle.key_index.proofs.changes.undo.Goals as goal

pub returns : goal.returns
returns c = c.cut.ensures.pairs ∙ cut-changed (undone c.args.main) refl c.args.key.now c.args.keys.now
