-- The oldest goes alone.
use Rattle.std.proofs.Common.{sym, ◌∙◌}
use Rattle.key_index.proofs.KeyRevisions.{oldest-without}
use Rattle.key_index.proofs.revisions.drop_at.Goals as goal

pub returns-then-is_oldest : goal.returns-then-is_oldest
returns-then-is_oldest c =
    c.drop_first.ensures ∙ oldest-without c.args.rev c.args.revisions.now.items c.requires (sym c.is_oldest.ensures ∙ c.if-is_oldest.true)
