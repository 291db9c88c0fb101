-- A walk begins with nothing, where its range does.
use Rattle.std.proofs.Common.{ap, sym, subst, map}
use Rattle.std.specs.Ordering.{is_le}
use Rattle.kv_model.specs.Ranges.{live}
use Rattle.range_view.specs.Replies.{kv_view}
use Rattle.store_laws.proofs.KeyLaws.{cmp-refl}
use Rattle.swept_ranges.specs.Swept.{covers}
use Rattle.swept_ranges.specs.Walks.{AreButFrom}
use Rattle.swept_ranges.proofs.Sweeping.{begins}
use Rattle.swept_ranges.proofs.swept.walk.Goals as goal

pub loop-init : goal.loop-init
loop-init c =
    let v = c.args.view.now in
    let r = c.args.range.now in
    let w = c.args.whole.now in
    let cover = covers c.args.swept.now in
    record {
      from = ap is_le (cmp-refl w.from.now);
      so_far = subst (λ kvs. AreButFrom cover w.from.now (map kv_view kvs) (live v.versions v.place r)) (sym c.new-kvs.ensures.items)
          (begins v.versions v.place r w cover c.requires);
    }
