-- A part of the list is what is live in the range.
use Rattle.std.proofs.Common.{◌≡◌, ◌∙◌, ap, map, sym}
use Rattle.kv_model.specs.Ranges.{live}
use Rattle.range_view.specs.Replies.{kv_view}
use Rattle.live_keys.specs.Parts.{of_part}
use Rattle.live_keys.proofs.Neighbours.{between-map}
use Rattle.live_keys.proofs.Within.{live-cut, if_ok-map}
use Rattle.live_keys.proofs.lending.live_in.Goals as goal

pub returns : goal.returns
returns c = λ v listed.
    let p = c.part_of-part.result in
    let kvs = c.deref.result.now in
    let given = c.deref-2.result.now in
    let same : of_part p (map kv_view given) ≡ live v.versions v.place c.args.range.now
    = ap (λ ks. of_part p (map kv_view ks)) (c.deref-2.ensures.value ∙ sym c.deref.ensures.value)
    ∙ live-cut v c.args.listed.now c.args.range.now p kvs c.deref.ensures.value listed c.part_of-part.ensures.exact in
    if_ok-map (λ w. w.items ≡ of_part p given) (λ w. map kv_view w.items ≡ live v.versions v.place c.args.range.now)
    (λ w e. ap (map kv_view) e ∙ sym (between-map kv_view p.from p.to given) ∙ same) c.part_copied.result c.part_copied.ensures
