-- Key-values in the order of a field.
use Rattle.std.specs.Prelude.{ℕ, suc, List, [], ◌∷◌, Bool, true, false, nat_lt, Option, None, Some}
use Rattle.std.specs.List.Sorted.{IsPermutation, IsSortedBy}
use Rattle.std.specs.declared.cmp.Ordering.{Ordering}
use Rattle.std.specs.declared.cmp.Ordering.TheVariants.{Less, Equal, Greater}
use Rattle.std.specs.Ordering.{is_lt, nat_cmp, ordering_then}
use Rattle.kv_model.specs.declared.call.Operand.{Operand}
use Rattle.kv_model.specs.Txns.{operand_cmp}
use Rattle.range_view.specs.declared.reply.KvRef.{KvRef}
use Rattle.range_view.specs.Replies.{kv_view}
use Rattle.live_keys.specs.declared.field.Field.{Field}
use Rattle.live_keys.specs.declared.order.Order.{Order}
use Rattle.live_keys.specs.declared.order.Placed.{Placed}
use Rattle.live_keys.specs.Fields.{field_cmp}

-- the key-values of a list with their places, the first of them at this one
abbrev pub placed_from : ℕ → List KvRef → List Placed
placed_from i [] = []
placed_from i (kv ∷ kvs) = (record { kv = kv; place = i }) ∷ placed_from (suc i) kvs

-- how two stand by a field, and where they tie, by their places
abbrev pub placed_cmp : Field → Placed → Placed → Ordering
placed_cmp f a b = ordering_then (field_cmp f (kv_view a.kv) (kv_view b.kv)) (nat_cmp a.place b.place)

-- these are those of the list, in this order
pub record AreOrdered (f : Field) (kvs : List KvRef) (ps : List Placed) : Type 0 where
  pub all : IsPermutation (placed_from 0 kvs) ps
  pub rises : IsSortedBy (λ a b. is_lt (placed_cmp f a b)) ps

abbrev pub IsOrder : List KvRef → Order → Type 0
IsOrder kvs o = AreOrdered o.field kvs o.placed.items

-- ---- the place of an operand, of what stands to it like this at a place

abbrev pub comes_before : ℕ → Ordering → ℕ → Bool
comes_before from Less n = true
comes_before from Equal n = nat_lt n from
comes_before from Greater n = false

abbrev pub stands_before : ℕ → Ordering → ℕ → Bool
stands_before to Less n = false
stands_before to Equal n = nat_lt n to
stands_before to Greater n = false

-- it comes before what equals the operand from a place on
abbrev pub is_before : Operand → ℕ → Placed → Bool
is_before o from p = comes_before from (operand_cmp o (kv_view p.kv)) p.place

-- it equals the operand, and stands before a place
abbrev pub is_there : Operand → ℕ → Placed → Bool
is_there o to p = stands_before to (operand_cmp o (kv_view p.kv)) p.place

abbrev pub is_found : Operand → ℕ → Option Placed → Bool
is_found o to None = false
is_found o to (Some p) = is_there o to p
