-- The last one is at the back.
use Rattle.std.proofs.Common.{◌∙◌}
use Rattle.key_index.proofs.KeyRevisions.{newest-back}
use Rattle.key_index.proofs.revisions.newest.Goals as goal

pub returns : goal.returns
returns c = c.copied.ensures ∙ newest-back c.args.revisions.now.items _ c.args.revisions.now.ok.0 c.back.result c.back.ensures.item
