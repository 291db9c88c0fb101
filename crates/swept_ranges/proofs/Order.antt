-- Ranges in order, and one more among them.
use Rattle.std.proofs.Common.{◌≡◌, ℕ, zero, suc, ◌-◌, ◌<◌, ◌≤◌, List, [], ◌∷◌, ◌++◌, length, get_or, take, drop, Bool, true, false}
use Rattle.std.proofs.Common.{◌||◌, cond, min, Option, None, Some, refl, sym, ◌∙◌, ap, subst, arith, Bor, Result, Ok, Err, OnOk}
use Rattle.std.proofs.Math.Nat.{suc-min-suc}
use Rattle.std.specs.List.{AllByRecursion, insert, remove}
use Rattle.std.specs.declared.cmp.Ordering.{Ordering}
use Rattle.std.specs.declared.cmp.Ordering.TheVariants.{Less, Equal, Greater}
use Rattle.std.specs.Ordering.{ordering_reverse, is_lt, is_le}
use Rattle.std.specs.Cmp.Lexicographic.{nat_list_cmp_total}
use Rattle.std.specs.List.Sorted.{IsPartitionedBy}
use Rattle.std.proofs.lemmas.Map.Lookups.{exact_bytes}
use Rattle.kv_model.specs.declared.version.KeyRange.{KeyRange}
use Rattle.kv_model.specs.Keys.{key_cmp, key_lt, key_le, same_key}
use Rattle.kv_model.specs.Lists.{is_empty}
use Rattle.store_laws.specs.Rising.{count_while}
use Rattle.store_laws.proofs.HistoryLaws.{same_key-eq}
use Rattle.store_laws.proofs.KeyLaws.{same-refl}
use Rattle.store_laws.proofs.PlaceLaws.{each-map}
use Rattle.store_laws.proofs.Rising.{each-at}
use Rattle.swept_ranges.specs.Ends.{AreInOrder, Fits, Precedes, begins_by, end_of, ends_by, is_from, past_ends, reaches, start_of}
use Rattle.swept_ranges.proofs.Sweeping.{le-trans}

-- ---- keys in order

less : (o : Ordering) → is_lt o ≡ true → o ≡ Less
less Less h = refl
less Equal h = cc
less Greater h = cc

lt-trans : (a b c : List ℕ) → key_lt a b ≡ true → key_lt b c ≡ true → key_lt a c ≡ true
lt-trans a b c h g = ap is_lt (nat_list_cmp_total.trans a b c (less (key_cmp a b) h) (less (key_cmp b c) g))

not_le-lt : (a b : List ℕ) → key_le a b ≡ false → key_lt b a ≡ true
not_le-lt a b h = by (key_cmp a b) h (nat_list_cmp_total.antisymm b a)
  where
    by : (o : Ordering) → is_le o ≡ false → key_cmp b a ≡ ordering_reverse o → key_lt b a ≡ true
    by Less f e = cc
    by Equal f e = cc
    by Greater f e = ap is_lt e

not_le-le : (a b : List ℕ) → key_le a b ≡ false → key_le b a ≡ true
not_le-le a b h = by (key_cmp a b) h (nat_list_cmp_total.antisymm b a)
  where
    by : (o : Ordering) → is_le o ≡ false → key_cmp b a ≡ ordering_reverse o → key_le b a ≡ true
    by Less f e = cc
    by Equal f e = cc
    by Greater f e = ap is_le e

lt-not_le : (a b : List ℕ) → key_lt a b ≡ true → key_le b a ≡ false
lt-not_le a b h = by (key_cmp a b) h (nat_list_cmp_total.antisymm b a)
  where
    by : (o : Ordering) → is_lt o ≡ true → key_cmp b a ≡ ordering_reverse o → key_le b a ≡ false
    by Less f e = ap is_le e
    by Equal f e = cc
    by Greater f e = cc

lt-le : (a b : List ℕ) → key_lt a b ≡ true → key_le a b ≡ true
lt-le a b h = by (key_cmp a b) h
  where
    by : (o : Ordering) → is_lt o ≡ true → is_le o ≡ true
    by Less f = refl
    by Equal f = cc
    by Greater f = cc

lt_le-trans : (a b c : List ℕ) → key_lt a b ≡ true → key_le b c ≡ true → key_lt a c ≡ true
lt_le-trans a b c h g = not_le-lt c a (by (key_le c a) refl)
  where
    by : (d : Bool) → key_le c a ≡ d → d ≡ false
    by true e = sym (le-trans b c a g e) ∙ lt-not_le a b h
    by false e = refl

other-lt : (a b : List ℕ) → key_le a b ≡ true → same_key a b ≡ false → key_lt a b ≡ true
other-lt a b h d = by (key_cmp a b) refl h
  where
    by : (o : Ordering) → key_cmp a b ≡ o → is_le o ≡ true → key_lt a b ≡ true
    by Less e f = ap is_lt e
    by Equal e f = absurd (cc (sym (subst (λ k. same_key a k ≡ true) (exact_bytes a b e) (same-refl a)) ∙ d))
    by Greater e f = cc

-- ---- ends in order

from-total : (a b : Option (List ℕ)) → is_from a b ≡ false → is_from b a ≡ true
from-total None b h = cc
from-total (Some a) None h = refl
from-total (Some a) (Some b) h = not_le-le b a h

from-trans : (a b c : Option (List ℕ)) → is_from a b ≡ false → is_from b c ≡ false → is_from a c ≡ false
from-trans None b c h g = cc
from-trans (Some a) None c h g = cc
from-trans (Some a) (Some b) None h g = refl
from-trans (Some a) (Some b) (Some c) h g = by (key_le c a) refl
  where
    by : (d : Bool) → key_le c a ≡ d → d ≡ false
    by true e = sym (le-trans c a b e (not_le-le b a h)) ∙ g
    by false e = refl

precedes-trans : (r s t : KeyRange) → Precedes r s → Precedes s t → Precedes r t
precedes-trans r s t h g = (lt-trans (start_of r) (start_of s) (start_of t) h.0 g.0, from-trans (end_of r) (end_of s) (end_of t) h.1 g.1)

-- of a range of several keys
several : (r : KeyRange) (d : Bool) → is_empty r.end ≡ false → cond (is_empty r.end) false d ≡ d
several r d h = ap (λ b. cond b false d) h

-- ---- one more

or-false : (b : Bool) → (false || b) ≡ true → b ≡ true
or-false b h = h

past-order : (to : Option (List ℕ)) (rs : List (Bor KeyRange)) → AreInOrder rs → AreInOrder (past_ends to rs)
past-order to [] o = tt
past-order to (r ∷ rs) o = by (ends_by r.now to) (past-order to rs o.2)
  where
    by : (b : Bool) → AreInOrder (past_ends to rs) → AreInOrder (cond b (past_ends to rs) (r ∷ rs))
    by true rest = rest
    by false rest = o

past-each : (P : Bor KeyRange → Type 0) (to : Option (List ℕ)) (rs : List (Bor KeyRange)) → AllByRecursion P rs
    → AllByRecursion P (past_ends to rs)
past-each P to [] h = tt
past-each P to (r ∷ rs) h = by (ends_by r.now to) (past-each P to rs h.1)
  where
    by : (b : Bool) → AllByRecursion P (past_ends to rs) → AllByRecursion P (cond b (past_ends to rs) (r ∷ rs))
    by true rest = rest
    by false rest = h

-- what is left of those that begin behind a range, or end by its end, comes behind it
past-behind : (r : KeyRange) (rs : List (Bor KeyRange)) → AreInOrder rs
    → AllByRecursion (λ s. (ends_by s.now (end_of r) || key_lt (start_of r) (start_of s.now)) ≡ true) rs
    → AllByRecursion (λ s. Precedes r s.now) (past_ends (end_of r) rs)
past-behind r [] o h = tt
past-behind r (s ∷ rs) o h = by (ends_by s.now (end_of r)) refl h.0 (past-behind r rs o.2 h.1)
  where
    by : (b : Bool) → ends_by s.now (end_of r) ≡ b → (b || key_lt (start_of r) (start_of s.now)) ≡ true
        → AllByRecursion (λ t. Precedes r t.now) (past_ends (end_of r) rs)
        → AllByRecursion (λ t. Precedes r t.now) (cond b (past_ends (end_of r) rs) (s ∷ rs))
    by true e f rest = rest
    by false e f rest =
        let here : Precedes r s.now = (f, sym (several s.now (is_from (end_of r) (end_of s.now)) o.0) ∙ e) in
        (here, each-map (λ t. Precedes s.now t.now) (λ t. Precedes r t.now) (λ t g. precedes-trans r s.now t.now here g) rs o.1)

each-added : (P : Bor KeyRange → Type 0) (r : Bor KeyRange) (to : Option (List ℕ)) (rs : List (Bor KeyRange)) (i : ℕ)
    → AllByRecursion P rs → P r → AllByRecursion P (take i rs ++ r ∷ past_ends to (drop i rs))
each-added P r to rs zero h p = (p, past-each P to rs h)
each-added P r to [] (suc i) h p = (p, tt)
each-added P r to (s ∷ rs) (suc i) h p = (h.0, each-added P r to rs i h.1 p)

pub order-added : (r : Bor KeyRange) (rs : List (Bor KeyRange)) (i : ℕ) → AreInOrder rs → Fits rs r.now i
    → AreInOrder (take i rs ++ r ∷ past_ends (end_of r.now) (drop i rs))
order-added r rs zero o f = (f.several, past-behind r.now rs o f.behind, past-order (end_of r.now) rs o)
order-added r [] (suc i) o f = (f.several, tt, tt)
order-added r (s ∷ rs) (suc i) o f = (
  o.0,
  each-added (λ t. Precedes s.now t.now) r (end_of r.now) rs i o.1 f.before.0,
  order-added r rs i o.2 (record { several = f.several; before = f.before.1; behind = f.behind }),
)

-- ---- where it goes

-- those that begin behind a key stand behind all that begin with it or before it
starts-after : (r : KeyRange) (rs : List (Bor KeyRange)) (s : KeyRange) → AllByRecursion (λ t. Precedes s t.now) rs
    → key_lt (start_of r) (start_of s) ≡ true
    → AllByRecursion (λ t. (ends_by t.now (end_of r) || key_lt (start_of r) (start_of t.now)) ≡ true) rs
starts-after r rs s h l =
    each-map (λ t. Precedes s t.now) (λ t. (ends_by t.now (end_of r) || key_lt (start_of r) (start_of t.now)) ≡ true)
    (λ t g. or-right (ends_by t.now (end_of r)) (lt-trans (start_of r) (start_of s) (start_of t.now) l g.0)) rs h
  where
    or-right : (b : Bool) → {c : Bool} → c ≡ true → (b || c) ≡ true
    or-right true e = refl
    or-right false e = e

none-begun : (r : KeyRange) (rs : List (Bor KeyRange)) → AreInOrder rs → count_while (begins_by (start_of r)) rs ≡ 0
    → AllByRecursion (λ t. (ends_by t.now (end_of r) || key_lt (start_of r) (start_of t.now)) ≡ true) rs
none-begun r [] o e = tt
none-begun r (s ∷ rs) o e = by (key_le (start_of s.now) (start_of r)) refl e
  where
    here : (b c : Bool) → c ≡ true → (b || c) ≡ true
    here true c f = refl
    here false c f = f

    by : (b : Bool) → key_le (start_of s.now) (start_of r) ≡ b → cond b (suc (count_while (begins_by (start_of r)) rs)) zero ≡ 0
        → AllByRecursion (λ t. (ends_by t.now (end_of r) || key_lt (start_of r) (start_of t.now)) ≡ true) (s ∷ rs)
    by true f g = absurd (omega (arith, g))
    by false f g =
        let less : key_lt (start_of r) (start_of s.now) ≡ true = not_le-lt (start_of s.now) (start_of r) f in
        (here (ends_by s.now (end_of r)) (key_lt (start_of r) (start_of s.now)) less, starts-after r rs s.now o.1 less)

pub fits-first : (r : KeyRange) (rs : List (Bor KeyRange)) → is_empty r.end ≡ false → AreInOrder rs
    → count_while (begins_by (start_of r)) rs ≡ 0 → Fits rs r 0
fits-first r rs h o e = record { several = h; before = tt; behind = none-begun r rs o e }

begun-at : (k : List ℕ) (rs : List (Bor KeyRange)) (m : ℕ) (d : Bor KeyRange) → count_while (begins_by k) rs ≡ suc m
    → (key_le (start_of (get_or rs m d).now) k ≡ true) × (m < length rs)
begun-at k [] m d e = absurd (omega (arith, e))
begun-at k (s ∷ rs) zero d e = by (key_le (start_of s.now) k) refl e
  where
    by : (b : Bool) → key_le (start_of s.now) k ≡ b → cond b (suc (count_while (begins_by k) rs)) zero ≡ 1
        → (key_le (start_of s.now) k ≡ true) × (0 < suc (length rs))
    by true f g = (f, omega arith)
    by false f g = absurd (omega (arith, g))
begun-at k (s ∷ rs) (suc m) d e = by (key_le (start_of s.now) k) e (begun-at k rs m d)
  where
    by : (b : Bool) → cond b (suc (count_while (begins_by k) rs)) zero ≡ suc (suc m)
        → (count_while (begins_by k) rs ≡ suc m → (key_le (start_of (get_or rs m d).now) k ≡ true) × (m < length rs))
        → (key_le (start_of (get_or rs m d).now) k ≡ true) × (suc m < suc (length rs))
    by true g rest =
        let less : count_while (begins_by k) rs ≡ suc m = omega (arith, g) in
        let found = rest less in
        (found.0, (let l = found.1 in omega arith))
    by false g rest = absurd (omega (arith, g))

several-at : (rs : List (Bor KeyRange)) (m : ℕ) (d : Bor KeyRange) → AreInOrder rs → m < length rs → is_empty (get_or rs m d).now.end ≡ false
several-at [] m d o l = absurd (omega arith)
several-at (s ∷ rs) zero d o l = o.0
several-at (s ∷ rs) (suc m) d o l = several-at rs m d o.2 (omega arith)

-- behind the last that begins with a range's first key or before it, where that does not reach the range's end, or in its place
pub fits-last : (r : KeyRange) (rs : List (Bor KeyRange)) (m : ℕ) (d : Bor KeyRange) → is_empty r.end ≡ false → AreInOrder rs
    → count_while (begins_by (start_of r)) rs ≡ suc m → reaches (get_or rs m d).now (end_of r) ≡ false
    → (b : Bool) → same_key (start_of (get_or rs m d).now) (start_of r) ≡ b → Fits rs r (cond b m (suc m))
fits-last r [] m d h o e f b g = absurd (omega (arith, e))
fits-last r (s ∷ rs) zero d h o e f b g = by b g
  where
    first : key_le (start_of s.now) (start_of r) ≡ true
    first = (begun-at (start_of r) (s ∷ rs) zero d e).0

    none : (c : Bool) → key_le (start_of s.now) (start_of r) ≡ c → cond c (suc (count_while (begins_by (start_of r)) rs)) zero ≡ 1
        → count_while (begins_by (start_of r)) rs ≡ 0
    none true i j = omega (arith, j)
    none false i j = absurd (omega (arith, j))

    behind : AllByRecursion (λ t. (ends_by t.now (end_of r) || key_lt (start_of r) (start_of t.now)) ≡ true) rs
    behind = none-begun r rs o.2 (none (key_le (start_of s.now) (start_of r)) refl e)

    short : is_from (end_of s.now) (end_of r) ≡ false
    short = sym (several s.now (is_from (end_of s.now) (end_of r)) o.0) ∙ f

    by : (c : Bool) → same_key (start_of s.now) (start_of r) ≡ c → Fits (s ∷ rs) r (cond c zero 1)
    by true i = record {
      several = h;
      before = tt;
      behind = (
        ap (λ q. q || key_lt (start_of r) (start_of s.now))
            (several s.now (is_from (end_of r) (end_of s.now)) o.0 ∙ from-total (end_of s.now) (end_of r) short),
        behind,
      );
    }
    by false i = record {
      several = h;
      before = ((other-lt (start_of s.now) (start_of r) first i, short), tt);
      behind = behind;
    }
fits-last r (s ∷ rs) (suc m) d h o e f b g = by b (fits-last r rs m d h o.2 less f b g)
  where
    counted : (c : Bool) → cond c (suc (count_while (begins_by (start_of r)) rs)) zero ≡ suc (suc m)
        → count_while (begins_by (start_of r)) rs ≡ suc m
    counted true j = omega (arith, j)
    counted false j = absurd (omega (arith, j))

    less : count_while (begins_by (start_of r)) rs ≡ suc m
    less = counted (key_le (start_of s.now) (start_of r)) e

    last : KeyRange
    last = (get_or rs m d).now

    inside : m < length rs
    inside = (begun-at (start_of r) rs m d less).1

    short : is_from (end_of last) (end_of r) ≡ false
    short = sym (several last (is_from (end_of last) (end_of r)) (several-at rs m d o.2 inside)) ∙ f

    beside : Precedes s.now last
    beside = each-at (λ t. Precedes s.now t.now) rs m d o.1 inside

    here : Precedes s.now r
    here = (
      lt_le-trans (start_of s.now) (start_of last) (start_of r) beside.0 (begun-at (start_of r) rs m d less).0,
      from-trans (end_of s.now) (end_of last) (end_of r) beside.1 short,
    )

    by : (c : Bool) → Fits rs r (cond c m (suc m)) → Fits (s ∷ rs) r (cond c (suc m) (suc (suc m)))
    by true q = record { several = q.several; before = (here, q.before); behind = q.behind }
    by false q = record { several = q.several; before = (here, q.before); behind = q.behind }

pub fits-behind : (r : KeyRange) (rs : List (Bor KeyRange)) (n : ℕ) (d : Bor KeyRange) → d ≡ get_or rs (n - 1) d → 0 < n
    → is_empty r.end ≡ false → AreInOrder rs → count_while (begins_by (start_of r)) rs ≡ n → reaches d.now (end_of r) ≡ false
    → (b : Bool) → same_key (start_of d.now) (start_of r) ≡ b → Fits rs r (cond b (n - 1) n)
fits-behind r rs zero d at l h o e f b g = absurd (omega arith)
fits-behind r rs (suc m) d at l h o e f b g =
    let below : suc m - 1 ≡ m = omega arith in
    let last : d ≡ get_or rs m d = at ∙ ap (λ k. get_or rs k d) below in
    subst (λ k. Fits rs r (cond b k (suc m))) (sym below)
    (fits-last r rs m d h o e (subst (λ (q : Bor KeyRange). reaches q.now (end_of r) ≡ false) last f) b
    (subst (λ (q : Bor KeyRange). same_key (start_of q.now) (start_of r) ≡ b) last g))

-- ---- halving

pub halved : (k : List ℕ) (rs : List (Bor KeyRange)) → AreInOrder rs → IsPartitionedBy (begins_by k) rs
halved k [] o i j d l m h = absurd (omega arith)
halved k (s ∷ rs) o zero zero d l m h = h
halved k (s ∷ rs) o zero (suc j) d l m h =
    le-trans (start_of s.now) (start_of (get_or rs j d).now) k
    (lt-le (start_of s.now) (start_of (get_or rs j d).now) (each-at (λ t. Precedes s.now t.now) rs j d o.1 (omega arith)).0) h
halved k (s ∷ rs) o (suc i) zero d l m h = absurd (omega arith)
halved k (s ∷ rs) o (suc i) (suc j) d l m h = halved k rs o.2 i j d (omega arith) (omega arith) h

-- ---- those that end by an end are dropped

pub dropped : (to : Option (List ℕ)) (rs : List (Bor KeyRange)) (i : ℕ) (d : Bor KeyRange) → i < length rs
    → ends_by (get_or rs i d).now to ≡ true
    → take i (remove rs i) ++ past_ends to (drop i (remove rs i)) ≡ take i rs ++ past_ends to (drop i rs)
dropped to [] i d l e = absurd (omega arith)
dropped to (s ∷ rs) zero d l e = sym (ap (λ b. cond b (past_ends to rs) (s ∷ rs)) e)
dropped to (s ∷ rs) (suc i) d l e = ap (λ ts. s ∷ ts) (dropped to rs i d (omega arith) e)

pub kept-here : (to : Option (List ℕ)) (rs : List (Bor KeyRange)) (i : ℕ) (d : Bor KeyRange) → i < length rs
    → ends_by (get_or rs i d).now to ≡ false → take i rs ++ past_ends to (drop i rs) ≡ rs
kept-here to [] i d l e = absurd (omega arith)
kept-here to (s ∷ rs) zero d l e = ap (λ b. cond b (past_ends to rs) (s ∷ rs)) e
kept-here to (s ∷ rs) (suc i) d l e = ap (λ ts. s ∷ ts) (kept-here to rs i d (omega arith) e)

pub kept-past : (to : Option (List ℕ)) (rs : List (Bor KeyRange)) (i : ℕ) → length rs ≤ i → take i rs ++ past_ends to (drop i rs) ≡ rs
kept-past to [] zero l = refl
kept-past to [] (suc i) l = refl
kept-past to (s ∷ rs) zero l = absurd (omega arith)
kept-past to (s ∷ rs) (suc i) l = ap (λ ts. s ∷ ts) (kept-past to rs i (omega arith))

-- ---- a range is put into its place

pub put-at : (to : Option (List ℕ)) (r : Bor KeyRange) (rs : List (Bor KeyRange)) (i : ℕ)
    → insert (take i rs ++ past_ends to (drop i rs)) (min i (length (take i rs ++ past_ends to (drop i rs)))) r
    ≡ take i rs ++ r ∷ past_ends to (drop i rs)
put-at to r rs zero =
    let none : min 0 (length (past_ends to rs)) ≡ 0 = omega arith in
    ap (λ n. insert (past_ends to rs) n r) none
put-at to r [] (suc i) =
    let none : min (suc i) 0 ≡ 0 = omega arith in
    ap (λ n. insert [] n r) none
put-at to r (s ∷ rs) (suc i) =
    ap (λ n. insert (s ∷ take i rs ++ past_ends to (drop i rs)) n r) (suc-min-suc i (length (take i rs ++ past_ends to (drop i rs))))
    ∙ ap (λ ts. s ∷ ts) (put-at to r rs i)

pub order-put : (r : Bor KeyRange) (rs ws us : List (Bor KeyRange)) (i : ℕ) (to : Option (List ℕ)) → to ≡ end_of r.now
    → ws ≡ take i rs ++ past_ends to (drop i rs) → (AreInOrder rs → Fits rs r.now i) → us ≡ insert ws (min i (length ws)) r
    → AreInOrder rs → AreInOrder us
order-put r rs ws us i to e w f u o =
    let placed : us ≡ take i rs ++ r ∷ past_ends to (drop i rs) = u ∙ ap (λ vs. insert vs (min i (length vs)) r) w ∙ put-at to r rs i in
    subst AreInOrder (sym (placed ∙ ap (λ t. take i rs ++ r ∷ past_ends t (drop i rs)) e)) (order-added r rs i o (f o))

pub on-ok : {T E : Type 0} (A B : Type 0) → (A → B) → (r : Result T E) → OnOk r A → OnOk r B
on-ok A B f (Ok x) h = f h
on-ok A B f (Err e) h = h
