-- Key-values of a list in an order that a Range asks for.
use Rattle.std.specs.Prelude.{◌≡◌, List, Bool, ◌&&◌, nat_le, nat_lt}
use Rattle.std.specs.declared.cmp.Ordering.{Ordering}
use Rattle.kv_model.specs.declared.call.RangeQuery.{RangeQuery}
use Rattle.kv_model.specs.declared.call.SortOrder.{SortOrder}
use Rattle.kv_model.specs.declared.call.SortTarget.{SortTarget}
use Rattle.kv_model.specs.Ranges.{order_cmp, sorted_by, target_cmp}
use Rattle.range_view.specs.declared.reply.KvRef.{KvRef}
use Rattle.range_view.specs.Replies.{kv_view}
use Rattle.live_keys.specs.declared.order.Placed.{Placed}
use Rattle.live_keys.specs.declared.part.Part.{Part}
use Rattle.live_keys.specs.declared.ranking.Ranking.{Ranking}
use Rattle.live_keys.specs.Orders.{placed_from}
use Rattle.shown_ranges.specs.Shown.{shows}

-- how two stand in the order asked for, wherever they stand in the list
abbrev pub ranked_cmp : SortOrder → SortTarget → Placed → Placed → Ordering
ranked_cmp o t a b = order_cmp o (target_cmp t (kv_view a.kv) (kv_view b.kv))

-- the list with its places, sorted so
abbrev pub IsRanking : List KvRef → Ranking → Type 0
IsRanking kvs r = r.placed.items ≡ sorted_by (ranked_cmp r.order r.target) (placed_from 0 kvs)

-- it stands in the part, and the filters let it pass
abbrev pub is_shown : RangeQuery → Part → Placed → Bool
is_shown q p r = (nat_le p.from r.place && nat_lt r.place p.to) && shows q r.kv
