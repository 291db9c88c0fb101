-- What lies beside ranges of which nothing is seen is all.
use Rattle.std.proofs.Common.{map, subst}
use Rattle.kv_model.specs.Ranges.{live}
use Rattle.range_view.specs.Replies.{kv_view}
use Rattle.swept_ranges.specs.Swept.{covers, AreBut}
use Rattle.txn_core.proofs.Staying.{but-none}
use Rattle.txn_core.proofs.emptied.live_left.Goals as goal

pub returns : goal.returns
returns c =
    let v = c.args.view.now in
    let r = c.args.range.now in
    let kvs = map kv_view c.in_ok-kvs.kvs.items in
    but-none v c.args.emptied.now.ranges.items r kvs c.requires
    (subst (λ rs. AreBut (covers rs) kvs (live v.versions v.place r)) c.deref.ensures.value c.in_ok-kvs.ensures)
