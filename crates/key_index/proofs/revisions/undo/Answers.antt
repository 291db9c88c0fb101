-- One revision after another goes from the end, as long as it is of the main revision.
use Rattle.std.proofs.Common.{sym, ◌∙◌}
use Rattle.key_index.proofs.KeyRevisions.{undone-pop, undone-same}
use Rattle.key_index.proofs.revisions.undo.Goals as goal

pub loop-revisions-preserved : goal.loop-revisions-preserved
loop-revisions-preserved c =
    undone-pop c.args.main _ _ c.pop_back.result c.pop_back.ensures.items (sym c.ends_in.ensures ∙ c.loop-revisions-test.true)
    ∙ c.loop-revisions.invariant

pub returns : goal.returns
returns c = sym (undone-same c.args.main _ (sym c.ends_in.ensures ∙ c.loop-revisions-test.false)) ∙ c.loop-revisions.invariant
