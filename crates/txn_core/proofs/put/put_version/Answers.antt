-- The count of its puts is one that 64 bits hold.
use Rattle.std.proofs.Common.{◌∙◌, option_map}
use Rattle.range_view.specs.Replies.{kv_view}
use Rattle.txn_core.proofs.PutCounts.{put-kept}
use Rattle.txn_core.proofs.put.put_version.Goals as goal

pub returns-in-Ok : goal.returns-in-Ok
returns-in-Ok c = c.in-Ok.ensures ∙ put-kept c.args.rev c.args.request.now (option_map kv_view c.args.held) c.requires
