-- The first few of key-values in an order that a Range asks for.
use Rattle.std.specs.Prelude.{List, [], ◌∷◌, if◌then◌else◌}
use Rattle.std.specs.declared.cmp.Ordering.{Ordering}
use Rattle.std.specs.Ordering.{is_gt}
use Rattle.kv_model.specs.declared.call.RangeQuery.{RangeQuery}
use Rattle.kv_model.specs.Ranges.{order_cmp, target_cmp}
use Rattle.range_view.specs.declared.reply.KvRef.{KvRef}
use Rattle.range_view.specs.Replies.{kv_view}

-- how two stand in the order asked for
abbrev pub asked_cmp : RangeQuery → KvRef → KvRef → Ordering
asked_cmp q a b = order_cmp q.order (target_cmp q.target (kv_view a) (kv_view b))

-- x before the first that is above it, so behind what ties with it
abbrev pub put_behind : {X : Type 0} → (X → X → Ordering) → X → List X → List X
put_behind cmp x [] = x ∷ []
put_behind cmp x (y ∷ ys) = if is_gt (cmp y x) then x ∷ y ∷ ys else y ∷ put_behind cmp x ys
