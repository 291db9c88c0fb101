-- A list of all live keys, and what is found about it.
use Rattle.std.specs.Prelude.{◌≡◌, Option, None, Some, map, ⊤}
use Rattle.std.specs.List.{AllByRecursion}
use Rattle.kv_model.specs.Keys.{all_keys}
use Rattle.kv_model.specs.Ranges.{live}
use Rattle.range_view.specs.Replies.{kv_view}
use Rattle.range_view.specs.Stored.{Viewed}
use Rattle.live_keys.specs.declared.listed.Listed.{Listed}
use Rattle.live_keys.specs.Extremes.{IsTree}
use Rattle.live_keys.specs.Orders.{IsOrder}
use Rattle.live_keys.specs.Ranked.{IsRanking}

-- they are all live keys at the view's place, with trees over them, their orders by fields, and their rankings
pub record IsListed (v : Viewed) (l : Listed) : Type 0 where
  pub kvs : map kv_view l.kvs.items ≡ live v.versions v.place all_keys
  pub trees : AllByRecursion (IsTree l.kvs.items) l.trees.items
  pub orders : AllByRecursion (IsOrder l.kvs.items) l.orders.items
  pub rankings : AllByRecursion (IsRanking l.kvs.items) l.rankings.items

abbrev pub MayBeListed : Viewed → Option Listed → Type 0
MayBeListed v None = ⊤
MayBeListed v (Some l) = IsListed v l
