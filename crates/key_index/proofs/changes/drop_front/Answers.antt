-- The map has it in its place.
use Rattle.std.proofs.Common.{drop, refl, ◌∙◌}
use Rattle.key_index.proofs.InPlace.{cut-changed}
use Rattle.key_index.proofs.changes.drop_front.Goals as goal

pub returns : goal.returns
returns c = c.cut.ensures.pairs ∙ cut-changed (drop 1) refl c.args.key.now c.args.keys.now
