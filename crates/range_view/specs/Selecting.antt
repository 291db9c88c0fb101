-- What a walk over the live keys of a range keeps, so that the answer can be made of it.
use Rattle.std.specs.Prelude.{◌≡◌, ℕ, zero, suc, ℤ, pos, negsuc, List, map, take, length, filter, Bool, true, false}
use Rattle.std.specs.Prelude.{if◌then◌else◌, Option, None, Some}
use Rattle.kv_model.specs.declared.call.RangeQuery.{RangeQuery}
use Rattle.kv_model.specs.declared.call.SortOrder.{SortOrder}
use Rattle.kv_model.specs.declared.call.SortOrder.TheVariants.{Unsorted, Ascend, Descend}
use Rattle.kv_model.specs.declared.call.SortTarget.{SortTarget}
use Rattle.kv_model.specs.declared.call.SortTarget.TheVariants.{ByKey, ByVersion, ByCreate, ByMod, ByValue}
use Rattle.kv_model.specs.History.{KeyValue}
use Rattle.store_laws.specs.Laws.{IsStrictlyAscending}
use Rattle.kv_model.specs.Ranges.{passes_filters, sorted}
use Rattle.range_view.specs.declared.select.Found.{Found}
use Rattle.range_view.specs.Replies.{kv_view}

-- each stands once, in the order of the keys
abbrev pub AreByKey : List KeyValue → Type 0
AreByKey kvs = IsStrictlyAscending (map (λ kv. kv.key) kvs)

abbrev pub is_ascending : SortOrder → Bool
is_ascending Unsorted = true
is_ascending Ascend = true
is_ascending Descend = false

-- whether the answer shows its keys as a walk finds them
abbrev pub keeps_order : SortOrder → SortTarget → Bool
keeps_order o ByKey = is_ascending o
keeps_order o ByVersion = false
keeps_order o ByCreate = false
keeps_order o ByMod = false
keeps_order o ByValue = false

-- in the order that the answer shows them
abbrev pub arranged : RangeQuery → List KeyValue → List KeyValue
arranged q kvs = if keeps_order q.order q.target then kvs else sorted q.order q.target kvs

abbrev pub limit_of : ℤ → Option ℕ
limit_of (pos zero) = None
limit_of (pos (suc n)) = Some (suc n)
limit_of (negsuc n) = None

-- how many of those that pass the filters the answer can need, where there is a bound
abbrev pub most_needed : RangeQuery → Option ℕ
most_needed q = if q.count_only then Some 0 else if keeps_order q.order q.target then limit_of q.limit else None

abbrev pub first_of : {X : Type 0} → Option ℕ → List X → List X
first_of None xs = xs
first_of (Some n) xs = take n xs

-- what is found of the live keys that were seen
pub record IsFound (q : RangeQuery) (found : Found) (seen : List KeyValue) : Type 0 where
  pub kvs : map kv_view found.kvs.items ≡ first_of (most_needed q) (filter (passes_filters q) seen)
  pub hits : found.hits ≡ length (filter (passes_filters q) seen)
  pub count : found.count ≡ length seen
