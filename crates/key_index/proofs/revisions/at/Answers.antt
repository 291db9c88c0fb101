-- The newest that is not after the place is the last of those.
use Rattle.std.proofs.Common.{sym, ◌∙◌}
use Rattle.key_index.proofs.KeyRevisions.{newest-at, none-at}
use Rattle.key_index.proofs.revisions.at.Goals as goal

pub returns-then-is_up_to : goal.returns-then-is_up_to
returns-then-is_up_to c =
    sym (newest-at c.args.place c.args.revisions.now.items _ (sym c.in-Some.ensures) (sym c.is_up_to.ensures ∙ c.if-is_up_to.true))

pub returns-in-None : goal.returns-in-None
returns-in-None c = sym (none-at c.args.place c.args.revisions.now.items (sym c.in-None.ensures))
