-- Range: the live keys of an interval at a place, filtered, sorted and cut (etcd: RangeRequest).
use Rattle.std.specs.Prelude.{ℕ, zero, suc, ℤ, pos, negsuc, List, [], ◌∷◌, length, map, take, filter, filter_map, Bool}
use Rattle.std.specs.Prelude.{false, ◌&&◌, ◌||◌, nat_lt, int_le, if◌then◌else◌, Option, None, Some, Result, Ok, Err}
use Rattle.std.specs.Option.{option_or}
use Rattle.std.specs.declared.cmp.Ordering.{Ordering}
use Rattle.std.specs.Ordering.{nat_cmp, int_eq, match_ordering, is_gt, ordering_reverse}
use Rattle.kv_model.specs.declared.version.Rev.{Rev}
use Rattle.kv_model.specs.declared.version.Version.{Version}
use Rattle.kv_model.specs.declared.version.KeyRange.{KeyRange}
use Rattle.kv_model.specs.declared.call.RangeQuery.{RangeQuery}
use Rattle.kv_model.specs.declared.call.SortOrder.{SortOrder}
use Rattle.kv_model.specs.declared.call.SortOrder.TheVariants.{Unsorted, Ascend, Descend}
use Rattle.kv_model.specs.declared.call.SortTarget.{SortTarget}
use Rattle.kv_model.specs.declared.call.SortTarget.TheVariants.{ByKey, ByVersion, ByCreate, ByMod, ByValue}
use Rattle.kv_model.specs.declared.refusal.Refusal.{Refusal}
use Rattle.kv_model.specs.declared.refusal.Refusal.TheVariants.{NoKey, Compacted, Future}
use Rattle.kv_model.specs.Lists.{is_empty}
use Rattle.kv_model.specs.Keys.{key_cmp, in_range, one_key}
use Rattle.kv_model.specs.History.{KeyValue, value_at, value_now, end_of}

-- the key in its place among ascending keys, once
abbrev pub insert_key : List ℕ → List (List ℕ) → List (List ℕ)
insert_key k [] = k ∷ []
insert_key k (l ∷ ls) = match_ordering (key_cmp k l) (k ∷ l ∷ ls) (l ∷ ls) (l ∷ insert_key k ls)

-- every key that has a version, ascending
abbrev pub keys : List Version → List (List ℕ)
keys [] = []
keys (v ∷ vs) = insert_key v.key (keys vs)

-- what a key of the range holds at the place
abbrev pub value_within : List Version → Rev → KeyRange → List ℕ → Option KeyValue
value_within vs p r k = if in_range r k then value_at vs p k else None

-- the live keys of a range at a place, ascending
unfoldable pub live : List Version → Rev → KeyRange → List KeyValue
live vs p r = filter_map (value_within vs p r) (keys vs)

abbrev pub keys_of : List KeyValue → List (List ℕ)
keys_of kvs = map (λ kv. kv.key) kvs

abbrev pub value_now_within : List Version → KeyRange → List ℕ → Option KeyValue
value_now_within vs r k = if in_range r k then value_now vs k else None

-- the keys of a range that are live at last, ascending
unfoldable pub live_now : List Version → KeyRange → List KeyValue
live_now vs r = filter_map (value_now_within vs r) (keys vs)

-- 0 is no filter
abbrev pub within : ℤ → ℤ → ℕ → Bool
within low high n = (int_eq low (pos 0) || int_le low (pos n)) && (int_eq high (pos 0) || int_le (pos n) high)

abbrev pub passes_filters : RangeQuery → KeyValue → Bool
passes_filters q kv = within q.min_mod q.max_mod kv.modified && within q.min_create q.max_create kv.create

abbrev pub target_cmp : SortTarget → KeyValue → KeyValue → Ordering
target_cmp ByKey a b = key_cmp a.key b.key
target_cmp ByVersion a b = nat_cmp a.version b.version
target_cmp ByCreate a b = nat_cmp a.create b.create
target_cmp ByMod a b = nat_cmp a.modified b.modified
target_cmp ByValue a b = key_cmp a.value b.value

-- unsorted is ascending
abbrev pub order_cmp : SortOrder → Ordering → Ordering
order_cmp Unsorted o = o
order_cmp Ascend o = o
order_cmp Descend o = ordering_reverse o

-- x before the first that it is not above, so what ties keeps its order
abbrev pub insert_by : {X : Type 0} → (X → X → Ordering) → X → List X → List X
insert_by cmp x [] = x ∷ []
insert_by cmp x (y ∷ ys) = if is_gt (cmp x y) then y ∷ insert_by cmp x ys else x ∷ y ∷ ys

-- sorted, stably
abbrev pub sorted_by : {X : Type 0} → (X → X → Ordering) → List X → List X
sorted_by cmp [] = []
sorted_by cmp (x ∷ xs) = insert_by cmp x (sorted_by cmp xs)

-- ties stay in the order of the keys, whichever way the sort goes
abbrev pub sorted : SortOrder → SortTarget → List KeyValue → List KeyValue
sorted o t = sorted_by (λ a b. order_cmp o (target_cmp t a b))

-- the first few; 0 and below is no limit
abbrev pub first_few : {X : Type 0} → ℤ → List X → List X
first_few (pos zero) xs = xs
first_few (pos (suc n)) xs = take (suc n) xs
first_few (negsuc n) xs = xs

-- a key-value whose value is not asked for
abbrev pub stripped : Bool → KeyValue → KeyValue
stripped keys_only kv = if keys_only then record kv { value = [] } else kv

pub record RangeReply : Type 0 where
  pub kvs : List KeyValue
  pub count : ℕ
  pub more : Bool
  pub revision : ℕ

-- the live keys, counted, and then filtered, sorted, cut and stripped
unfoldable pub reply_from : RangeQuery → ℕ → List KeyValue → RangeReply
reply_from q now kvs =
    let hits = sorted q.order q.target (filter (passes_filters q) kvs) in
    if q.count_only
    then record { kvs = []; count = length kvs; more = false; revision = now }
    else record {
      kvs = map (stripped q.keys_only) (first_few q.limit hits);
      count = length kvs;
      more = nat_lt (length (first_few q.limit hits)) (length hits);
      revision = now;
    }

abbrev pub refuse_if : Bool → Refusal → Option Refusal
refuse_if test e = if test then Some e else None

-- a revision asked for is neither compacted nor in the future; 0 and below is the present one
abbrev pub revision_refusal : ℕ → ℕ → ℤ → Option Refusal
revision_refusal c now (pos zero) = None
revision_refusal c now (pos (suc r)) = option_or (refuse_if (nat_lt (suc r) c) (Compacted c))
    (refuse_if (nat_lt now (suc r)) (Future now))
revision_refusal c now (negsuc n) = None

abbrev pub range_refusal : ℕ → ℕ → RangeQuery → Option Refusal
range_refusal c now q = option_or (refuse_if (is_empty q.range.key) NoKey) (revision_refusal c now q.revision)

-- the end of the revision asked for, or else the given place
abbrev pub read_place : ℤ → Rev → Rev
read_place (pos zero) p = p
read_place (pos (suc r)) p = end_of (suc r)
read_place (negsuc n) p = p

-- the answer, or the refusal that comes first
abbrev pub unless_refused : {X : Type 0} → Option Refusal → X → Result X Refusal
unless_refused None x = Ok x
unless_refused (Some e) x = Err e

-- the reply to a Range over versions, now the present revision
unfoldable pub range_reply : List Version → ℕ → Rev → RangeQuery → RangeReply
range_reply vs now p q = reply_from q now (live vs (read_place q.revision p) q.range)

-- the same, with its refusals: c is the last compaction
abbrev pub range_answer : List Version → ℕ → ℕ → Rev → RangeQuery → Result RangeReply Refusal
range_answer vs c now p q = unless_refused (range_refusal c now q) (range_reply vs now p q)

-- a Range of one key with nothing else asked
abbrev pub plain_range : List ℕ → ℕ → RangeQuery
plain_range k r = record {
  range = one_key k;
  limit = pos 0;
  revision = pos r;
  order = Unsorted;
  target = ByKey;
  serializable = false;
  keys_only = false;
  count_only = false;
  min_mod = pos 0;
  max_mod = pos 0;
  min_create = pos 0;
  max_create = pos 0;
}
