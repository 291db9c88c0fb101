-- The reply is made of what is live at the place that is read.
use Rattle.std.proofs.Common.{◌≡◌}
use Rattle.kv_model.specs.Ranges.{live, read_place, range_reply}
use Rattle.range_view.proofs.Live.{live-by_key}
use Rattle.range_view.proofs.view.View.answer.Goals as goal

pub returns : goal.returns
unfolding range_reply
returns c =
    let q = c.args.query.now in
    let vs = c.self.inside.table.now in
    let found = rw (← c.self.view_is) at c.in_ok-found.ensures in
    let place : c.read_place-place.result ≡ read_place q.revision c.self.inside.place = c.read_place-place.ensures in
    rw (← c.self.view_is, ← place) (c.finish.ensures (live vs c.read_place-place.result q.range) (live-by_key vs c.read_place-place.result q.range) found)
