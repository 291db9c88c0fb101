-- Nothing is known about the new list, and it is of the new place.
use Rattle.std.proofs.Common.{sym, subst}
use Rattle.std.specs.List.{AllByRecursion}
use Rattle.live_keys.specs.Extremes.{IsTree}
use Rattle.live_keys.specs.Orders.{IsOrder}
use Rattle.live_keys.specs.Ranked.{IsRanking}
use Rattle.live_keys.proofs.Exchanges.{listed-exchanged}
use Rattle.live_keys.proofs.listed.exchanged.Goals as goal

pub returns-in-Ok : goal.returns-in-Ok
returns-in-Ok c = λ v w h here out. record {
  kvs = listed-exchanged v w c.args.listed c.args.range.now c.part_of-part.result c.deref.result.now c.args.kvs.items c.put_in.new.kvs.items
      c.deref.ensures.value h c.part_of-part.ensures.inside c.part_of-part.ensures.exact c.part_of-part.ensures.stands here out c.in-Ok.ensures;
  trees = subst (AllByRecursion (IsTree c.put_in.new.kvs.items)) (sym c.clear.ensures.items) tt;
  orders = subst (AllByRecursion (IsOrder c.put_in.new.kvs.items)) (sym c.clear-2.ensures.items) tt;
  rankings = subst (AllByRecursion (IsRanking c.put_in.new.kvs.items)) (sym c.clear-3.ensures.items) tt;
}
