-- In the order of the keys from the last on, what passes is what passes, turned round.
use Rattle.std.proofs.Common.{◌≡◌, ◌∙◌, ℕ, zero, suc, ◌+◌, ◌-◌, ◌<◌, ◌≤◌, arith, List, [], ◌∷◌, ◌++◌, length, take, get_or, map, filter, Bool, true, false, cond, refl, sym, ap}
use Rattle.std.proofs.lemmas.List.{take_more}
use Rattle.std.specs.List.{AllByRecursion}
use Rattle.std.specs.declared.cmp.Ordering.{Ordering}
use Rattle.std.specs.declared.cmp.Ordering.TheVariants.{Less}
use Rattle.std.specs.Ordering.{is_gt, ordering_reverse}
use Rattle.kv_model.specs.declared.call.RangeQuery.{RangeQuery}
use Rattle.kv_model.specs.declared.call.SortOrder.{SortOrder}
use Rattle.kv_model.specs.declared.call.SortOrder.TheVariants.{Unsorted, Ascend, Descend}
use Rattle.kv_model.specs.declared.call.SortTarget.{SortTarget}
use Rattle.kv_model.specs.declared.call.SortTarget.TheVariants.{ByKey, ByVersion, ByCreate, ByMod, ByValue}
use Rattle.kv_model.specs.History.{KeyValue}
use Rattle.kv_model.specs.Keys.{key_cmp}
use Rattle.kv_model.specs.Ranges.{insert_by, passes_filters, sorted, sorted_by}
use Rattle.range_view.specs.declared.reply.KvRef.{KvRef}
use Rattle.range_view.specs.Replies.{kv_view}
use Rattle.range_view.specs.Selecting.{AreByKey}
use Rattle.shown_ranges.specs.Shown.{beyond, gathered, hits_of, is_turned, shows, turned}
use Rattle.shown_ranges.proofs.Gathering.{beyond-again, gathered-is, map-beyond}

pub turned-last : {X : Type 0} (xs : List X) (x : X) → turned (xs ++ x ∷ []) ≡ x ∷ turned xs
turned-last [] x = refl
turned-last (y ∷ xs) x = ap (λ ys. ys ++ y ∷ []) (turned-last xs x)

whole : {X : Type 0} (n : ℕ) (xs : List X) → length xs ≤ n → take n xs ≡ xs
whole zero [] l = refl
whole (suc n) [] l = refl
whole zero (x ∷ xs) l = absurd (omega arith)
whole (suc n) (x ∷ xs) l = ap (λ ys. x ∷ ys) (whole n xs (omega arith))

pub turned-whole : {X : Type 0} (xs : List X) → turned (take (length xs - 0) xs) ≡ turned xs
turned-whole xs = ap turned (whole (length xs - 0) xs (omega arith))

-- the last of what is left is the first of it, turned
pub turned-next : {X : Type 0} (xs : List X) (i : ℕ) (d : X) → i < length xs
    → turned (take (length xs - i) xs) ≡ get_or xs (length xs - 1 - i) d ∷ turned (take (length xs - (i + 1)) xs)
turned-next xs i d l =
    let more : length xs - i ≡ length xs - 1 - i + 1 = omega (arith, l) in
    let less : length xs - 1 - i ≡ length xs - (i + 1) = omega (arith, l) in
    ap (λ n. turned (take n xs)) more ∙ ap turned (take_more xs (length xs - 1 - i) d (omega (arith, l)))
    ∙ turned-last (take (length xs - 1 - i) xs) (get_or xs (length xs - 1 - i) d)
    ∙ ap (λ n. get_or xs (length xs - 1 - i) d ∷ turned (take n xs)) less

pub turned-none : {X : Type 0} (xs : List X) (i : ℕ) → length xs ≤ i → turned (take (length xs - i) xs) ≡ []
turned-none xs i l = let none : length xs - i ≡ 0 = omega (arith, l) in ap (λ n. turned (take n xs)) none

filter-last : {X : Type 0} (t : X → Bool) (xs : List X) (x : X) → filter t (xs ++ x ∷ []) ≡ filter t xs ++ cond (t x) (x ∷ []) []
filter-last t [] x = refl
filter-last {X} t (y ∷ xs) x = by (t y) (filter-last t xs x)
  where
    by : (b : Bool) → filter t (xs ++ x ∷ []) ≡ filter t xs ++ cond (t x) (x ∷ []) []
        → cond b (y ∷ filter t (xs ++ x ∷ [])) (filter t (xs ++ x ∷ [])) ≡ cond b (y ∷ filter t xs) (filter t xs) ++ cond (t x) (x ∷ []) []
    by true rest = ap (λ ys. y ∷ ys) rest
    by false rest = rest

append-none : {X : Type 0} (xs : List X) → xs ++ [] ≡ xs
append-none [] = refl
append-none (x ∷ xs) = ap (λ ys. x ∷ ys) (append-none xs)

map-row : {X Y : Type 0} (f : X → Y) (xs ys : List X) → map f (xs ++ ys) ≡ map f xs ++ map f ys
map-row f [] ys = refl
map-row f (x ∷ xs) ys = ap (λ zs. f x ∷ zs) (map-row f xs ys)

-- what is seen of what passes of the turned list is what passes of what is seen, turned
turned-seen : {X Y : Type 0} (f : X → Y) (t : Y → Bool) (xs : List X)
    → map f (map (λ x. x) (filter (λ x. t (f x)) (turned xs))) ≡ turned (filter t (map f xs))
turned-seen f t [] = refl
turned-seen {X} {Y} f t (x ∷ xs) =
    ap (λ ys. map f (map (λ x. x) ys)) (filter-last (λ x. t (f x)) (turned xs) x)
    ∙ ap (map f) (map-row (λ x. x) (filter (λ x. t (f x)) (turned xs)) (cond (t (f x)) (x ∷ []) []))
    ∙ map-row f (map (λ x. x) (filter (λ x. t (f x)) (turned xs))) (map (λ x. x) (cond (t (f x)) (x ∷ []) []))
    ∙ ap (λ ys. ys ++ map f (map (λ x. x) (cond (t (f x)) (x ∷ []) []))) (turned-seen f t xs)
    ∙ by (t (f x))
  where
    by : (b : Bool) → turned (filter t (map f xs)) ++ map f (map (λ x. x) (cond b (x ∷ []) []))
        ≡ turned (cond b (f x ∷ filter t (map f xs)) (filter t (map f xs)))
    by true = refl
    by false = append-none (turned (filter t (map f xs)))

-- ---- sorted from the last on

abbrev from_last : KeyValue → KeyValue → Ordering
from_last a b = ordering_reverse (key_cmp a.key b.key)

abbrev AreAbove : KeyValue → List KeyValue → Type 0
AreAbove kv kvs = AllByRecursion (λ w. key_cmp kv.key w.key ≡ Less) kvs

at-end : (kv : KeyValue) (kvs : List KeyValue) → AreAbove kv kvs → insert_by from_last kv kvs ≡ kvs ++ kv ∷ []
at-end kv [] h = refl
at-end kv (w ∷ ws) h =
    ap (λ o. cond (is_gt (ordering_reverse o)) (w ∷ insert_by from_last kv ws) (kv ∷ w ∷ ws)) h.0 ∙ ap (λ vs. w ∷ vs) (at-end kv ws h.1)

above-turned : (kv : KeyValue) (kvs : List KeyValue) → AreAbove kv kvs → AreAbove kv (turned kvs)
above-turned kv [] h = tt
above-turned kv (w ∷ ws) h = both (turned ws) (above-turned kv ws h.1)
  where
    both : (vs : List KeyValue) → AreAbove kv vs → AreAbove kv (vs ++ w ∷ [])
    both [] g = (h.0, tt)
    both (v ∷ vs) g = (g.0, both vs g.1)

above-seen : (kv : KeyValue) (kvs : List KeyValue) → AllByRecursion (λ l. key_cmp kv.key l ≡ Less) (map (λ w. w.key) kvs) → AreAbove kv kvs
above-seen kv [] h = tt
above-seen kv (w ∷ ws) h = (h.0, above-seen kv ws h.1)

sorted-turned : (kvs : List KeyValue) → AreByKey kvs → turned kvs ≡ sorted_by from_last kvs
sorted-turned [] h = refl
sorted-turned (kv ∷ kvs) h =
    sym (ap (insert_by from_last kv) (sym (sorted-turned kvs h.1)) ∙ at-end kv (turned kvs) (above-turned kv kvs (above-seen kv kvs h.0)))

asked-turned : (o : SortOrder) (t : SortTarget) → is_turned o t ≡ true → (kvs : List KeyValue) → AreByKey kvs → turned kvs ≡ sorted o t kvs
asked-turned Unsorted ByKey e kvs h = cc
asked-turned Ascend ByKey e kvs h = cc
asked-turned Descend ByKey e kvs h = sorted-turned kvs h
asked-turned o ByVersion e kvs h = cc
asked-turned o ByCreate e kvs h = cc
asked-turned o ByMod e kvs h = cc
asked-turned o ByValue e kvs h = cc

by-key-passed : (t : KeyValue → Bool) (kvs : List KeyValue) → AreByKey kvs → AreByKey (filter t kvs)
by-key-passed t [] h = tt
by-key-passed t (kv ∷ kvs) h = by (t kv) (by-key-passed t kvs h.1)
  where
    kept : (ws : List KeyValue) → AllByRecursion (λ l. key_cmp kv.key l ≡ Less) (map (λ w. w.key) ws)
        → AllByRecursion (λ l. key_cmp kv.key l ≡ Less) (map (λ w. w.key) (filter t ws))
    kept [] g = tt
    kept (w ∷ ws) g = one (t w) (kept ws g.1)
      where
        one : (b : Bool) → AllByRecursion (λ l. key_cmp kv.key l ≡ Less) (map (λ w. w.key) (filter t ws))
            → AllByRecursion (λ l. key_cmp kv.key l ≡ Less) (map (λ w. w.key) (cond b (w ∷ filter t ws) (filter t ws)))
        one true k = (g.0, k)
        one false k = k

    by : (b : Bool) → AreByKey (filter t kvs) → AreByKey (cond b (kv ∷ filter t kvs) (filter t kvs))
    by true rest = (kept kvs h.0, rest)
    by false rest = rest

pub last-arranged : (q : RangeQuery) (kvs shown : List KvRef) → is_turned q.order q.target ≡ true
    → shown ≡ gathered q.limit (shows q) (λ kv. kv) [] (turned kvs) → AreByKey (map kv_view kvs)
    → beyond q.limit (map kv_view shown) ≡ beyond q.limit (hits_of q (map kv_view kvs))
last-arranged q kvs shown e f h =
    ap (λ s. beyond q.limit (map kv_view s)) (f ∙ gathered-is (shows q) (λ kv. kv) q.limit (turned kvs))
    ∙ ap (beyond q.limit) (map-beyond kv_view q.limit (map (λ kv. kv) (filter (shows q) (turned kvs))))
    ∙ beyond-again q.limit (map kv_view (map (λ kv. kv) (filter (shows q) (turned kvs))))
    ∙ ap (beyond q.limit) (turned-seen kv_view (passes_filters q) kvs
    ∙ asked-turned q.order q.target e (filter (passes_filters q) (map kv_view kvs)) (by-key-passed (passes_filters q) (map kv_view kvs) h))
