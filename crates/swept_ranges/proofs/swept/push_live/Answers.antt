-- What a stretch holds is that part of a range's live keys that lies in it.
use Rattle.std.proofs.Common.{◌∙◌, ap, map, ◌++◌}
use Rattle.std.proofs.lemmas.List.{map-append}
use Rattle.range_view.specs.Replies.{kv_view}
use Rattle.swept_ranges.proofs.Sweeping.{live-within}
use Rattle.swept_ranges.proofs.swept.push_live.Goals as goal

pub returns : goal.returns
returns c = λ yes r g h.
    let v = c.args.view.now in
    let part = rw c.in-Some.is at c.in_ok-range.ensures in
    ap (map kv_view) (c.in_ok-extend_from_slice.ensures.items ∙ ap (λ kvs. c.args.kvs.now.items ++ kvs) c.deref.ensures.value)
    ∙ map-append kv_view c.args.kvs.now.items c.in_ok-found.found.items
    ∙ ap (λ kvs. map kv_view c.args.kvs.now.items ++ kvs)
    (c.in_ok-found.ensures ∙ live-within v.versions v.place r c.in-Some.range g (λ k. part k ∙ h k))
