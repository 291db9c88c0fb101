-- What equals an operand in a part of a list is found in the order of its field.
use Rattle.std.proofs.Common.{◌≡◌, ℕ, zero, suc, ◌+◌, ◌<◌, ◌≤◌, List, [], ◌∷◌, length, get_or, take, drop, pos}
use Rattle.std.proofs.Common.{Bool, true, false, not, ◌&&◌, ◌||◌, cond, nat_lt, nat_le, refl, sym, ◌∙◌, ap, arith}
use Rattle.std.proofs.Math.Seq.{drop-cons}
use Rattle.std.proofs.lemmas.Bool.Decides.{nat_tests}
use Rattle.std.proofs.lemmas.Cmp.{on_total, then_total, nat_cmp_total, int_cmp_total, tied_back, ranked}
use Rattle.std.proofs.lemmas.List.Sorted.{list_any-IsPermutation, ranks_by}
use Rattle.std.specs.List.{AllByRecursion, list_all, list_any, slice_get}
use Rattle.std.specs.List.Sorted.{IsSortedBy}
use Rattle.std.specs.Cmp.{IsTotalOrder}
use Rattle.std.specs.Cmp.Lexicographic.{nat_list_cmp_total}
use Rattle.std.specs.declared.cmp.Ordering.{Ordering}
use Rattle.std.specs.declared.cmp.Ordering.TheVariants.{Less, Equal, Greater}
use Rattle.std.specs.Ordering.{is_eq, is_gt, is_lt, is_ne, nat_cmp, int_cmp, ordering_reverse, ordering_then, MatchOrdering}
use Rattle.kv_model.specs.declared.call.Operand.{Operand}
use Rattle.kv_model.specs.declared.call.Operand.TheVariants.{OfVersion, OfCreate, OfMod, OfValue, OfLease}
use Rattle.kv_model.specs.History.{KeyValue}
use Rattle.kv_model.specs.Keys.{key_cmp}
use Rattle.kv_model.specs.Txns.{operand_cmp}
use Rattle.store_laws.specs.Rising.{count_while}
use Rattle.range_view.specs.declared.reply.KvRef.{KvRef}
use Rattle.range_view.specs.Replies.{kv_view}
use Rattle.range_view.proofs.Sorting.{NoneBelow, Rises, rises-from_sorted}
use Rattle.live_keys.specs.declared.field.Field.{Field}
use Rattle.live_keys.specs.declared.order.Placed.{Placed}
use Rattle.live_keys.specs.Fields.{field_of, field_cmp}
use Rattle.live_keys.specs.Orders.{placed_from, placed_cmp, AreOrdered, comes_before, stands_before, is_before, is_there, is_found}
use Rattle.live_keys.specs.Parts.{between}
use Rattle.shown_ranges.proofs.Falling.{Falls}
use Rattle.live_keys.proofs.Orders.{at_most, compare-follows, counts-as, field_total}

pub placed_total : (f : Field) → IsTotalOrder (placed_cmp f)
placed_total f = then_total (on_total (λ (p : Placed). kv_view p.kv) (field_total f)) (on_total (λ (p : Placed). p.place) nat_cmp_total)

-- ---- what ties with an operand ties

tied : {K : Type 0} (R : K → K → Ordering) → IsTotalOrder R → (x y n : K) → R x n ≡ Equal → R y n ≡ Equal → R x y ≡ Equal
tied R o x y n e g = o.congr x n y e ∙ tied_back o y n g

ties : (o : Operand) (a b : KeyValue) → operand_cmp o a ≡ Equal → operand_cmp o b ≡ Equal → field_cmp (field_of o) a b ≡ Equal
ties (OfVersion n) a b e g = counts-as a.version b.version ∙ tied int_cmp int_cmp_total (pos a.version) (pos b.version) n e g
ties (OfCreate n) a b e g = counts-as a.create b.create ∙ tied int_cmp int_cmp_total (pos a.create) (pos b.create) n e g
ties (OfMod n) a b e g = counts-as a.modified b.modified ∙ tied int_cmp int_cmp_total (pos a.modified) (pos b.modified) n e g
ties (OfValue v) a b e g = tied key_cmp nat_list_cmp_total a.value b.value v e g
ties (OfLease n) a b e g = tied int_cmp int_cmp_total a.lease b.lease n e g

upto-not : (n m : ℕ) → is_lt (nat_cmp m n) ≡ false → n ≤ m
upto-not n m h = by (nat_cmp m n) (ranked m n (nat_cmp m n) refl) h
  where
    by : (q : Ordering) → MatchOrdering q (m < n) (m ≡ n) (n < m) → is_lt q ≡ false → n ≤ m
    by Less l e = cc
    by Equal l e = omega (arith, l)
    by Greater l e = omega (arith, l)

-- of two in order the compare with an operand goes along, and the places where both equal it
module _ (o : Operand) (x y : Placed) (h : is_lt (placed_cmp (field_of o) y x) ≡ false) where
  later-most : at_most (operand_cmp o (kv_view x.kv)) (operand_cmp o (kv_view y.kv)) ≡ true
  later-most = compare-follows o (kv_view x.kv) (kv_view y.kv) (by (field_cmp (field_of o) (kv_view y.kv) (kv_view x.kv)) refl h)
    where
      turn : field_cmp (field_of o) (kv_view x.kv) (kv_view y.kv) ≡ ordering_reverse (field_cmp (field_of o) (kv_view y.kv) (kv_view x.kv))
      turn = (field_total (field_of o)).antisymm (kv_view x.kv) (kv_view y.kv)

      by : (q : Ordering) → field_cmp (field_of o) (kv_view y.kv) (kv_view x.kv) ≡ q → is_lt (ordering_then q (nat_cmp y.place x.place)) ≡ false
          → is_gt (field_cmp (field_of o) (kv_view x.kv) (kv_view y.kv)) ≡ false
      by Less e g = cc
      by Equal e g = ap is_gt (turn ∙ ap ordering_reverse e)
      by Greater e g = ap is_gt (turn ∙ ap ordering_reverse e)

  later-place : operand_cmp o (kv_view x.kv) ≡ Equal → operand_cmp o (kv_view y.kv) ≡ Equal → x.place ≤ y.place
  later-place e g =
      upto-not x.place y.place
      (sym (ap (λ q. is_lt (ordering_then q (nat_cmp y.place x.place))) (ties o (kv_view y.kv) (kv_view x.kv) g e)) ∙ h)

-- ---- where an operand is looked for

and-false : (b : Bool) → (b && false) ≡ false
and-false true = refl
and-false false = refl

abbrev hits : ℕ → ℕ → Ordering → ℕ → Bool
hits from to q n = is_eq q && (nat_le from n && nat_lt n to)

module _ (from to : ℕ) where
  before-not : (q : Ordering) (n : ℕ) → comes_before from q n ≡ true → hits from to q n ≡ false
  before-not Less n e = refl
  before-not Equal n e = let g : nat_le from n ≡ false = grind (arith, nat_tests, e) in ap (λ b. b && nat_lt n to) g
  before-not Greater n e = cc

  there-hits : (q : Ordering) (n : ℕ) → comes_before from q n ≡ false → stands_before to q n ≡ true → hits from to q n ≡ true
  there-hits Less n e g = cc
  there-hits Equal n e g = let l : nat_le from n ≡ true = grind (arith, nat_tests, e) in ap (λ b. b && nat_lt n to) l ∙ g
  there-hits Greater n e g = cc

  not-there : (q : Ordering) (n : ℕ) → stands_before to q n ≡ false → hits from to q n ≡ false
  not-there Less n g = refl
  not-there Equal n g = ap (λ b. nat_le from n && b) g ∙ and-false (nat_le from n)
  not-there Greater n g = refl

  later-not : (q r : Ordering) (n m : ℕ) → at_most q r ≡ true → (q ≡ Equal → r ≡ Equal → n ≤ m) → comes_before from q n ≡ false
      → stands_before to q n ≡ false → hits from to r m ≡ false
  later-not Less r n m a p e g = cc
  later-not Equal Less n m a p e g = cc
  later-not Equal Equal n m a p e g =
      let l : n ≤ m = p refl refl in
      let k : nat_lt m to ≡ false = grind (arith, nat_tests, g, l) in
      ap (λ b. nat_le from m && b) k ∙ and-false (nat_le from m)
  later-not Equal Greater n m a p e g = refl
  later-not Greater Less n m a p e g = cc
  later-not Greater Equal n m a p e g = cc
  later-not Greater Greater n m a p e g = refl

later-before : (from : ℕ) (q r : Ordering) (n m : ℕ) → at_most q r ≡ true → (q ≡ Equal → r ≡ Equal → n ≤ m) → comes_before from q n ≡ false
    → comes_before from r m ≡ false
later-before from Less r n m a p e = cc
later-before from Equal Less n m a p e = cc
later-before from Equal Equal n m a p e = let l : n ≤ m = p refl refl in grind (arith, nat_tests, e, l)
later-before from Equal Greater n m a p e = refl
later-before from Greater Less n m a p e = cc
later-before from Greater Equal n m a p e = cc
later-before from Greater Greater n m a p e = refl

abbrev is_hit : Operand → ℕ → ℕ → Placed → Bool
is_hit o from to p = hits from to (operand_cmp o (kv_view p.kv)) p.place

abbrev in_order : Operand → Placed → Placed → Bool
in_order o a b = is_lt (placed_cmp (field_of o) a b)

pub ordered-rises : (o : Operand) (ps : List Placed) → IsSortedBy (λ a b. is_lt (placed_cmp (field_of o) a b)) ps → Rises (in_order o) ps
ordered-rises o ps h = rises-from_sorted (in_order o) (ranks_by (placed_total (field_of o)) (λ x. x)) ps h

pub before-falls : (o : Operand) (from : ℕ) (ps : List Placed) → Rises (in_order o) ps → Falls (is_before o from) ps
before-falls o from [] h = tt
before-falls o from (x ∷ ps) h = ((λ e. each ps h.0 e), before-falls o from ps h.1)
  where
    each : (ys : List Placed) → NoneBelow (in_order o) x ys → is_before o from x ≡ false → AllByRecursion (λ y. is_before o from y ≡ false) ys
    each [] g e = tt
    each (y ∷ ys) g e = (
      later-before from (operand_cmp o (kv_view x.kv)) (operand_cmp o (kv_view y.kv)) x.place y.place (later-most o x y g.0) (later-place o x y g.0) e,
      each ys g.1 e,
    )

-- the first that does not come before is the operand's, or none is
hit-found : (o : Operand) (from to : ℕ) (ps : List Placed) → Rises (in_order o) ps
    → list_any (is_hit o from to) ps ≡ is_found o to (slice_get ps (count_while (is_before o from) ps))
hit-found o from to [] h = refl
hit-found o from to (x ∷ ps) h = by (is_before o from x) refl (hit-found o from to ps h.1)
  where
    q : Ordering
    q = operand_cmp o (kv_view x.kv)

    none : (ys : List Placed) → NoneBelow (in_order o) x ys → is_before o from x ≡ false → is_there o to x ≡ false → list_any (is_hit o from to) ys ≡ false
    none [] g e f = refl
    none (y ∷ ys) g e f =
        (λ i. later-not from to q (operand_cmp o (kv_view y.kv)) x.place y.place (later-most o x y g.0) (later-place o x y g.0) e f i
        || none ys g.1 e f i)

    there : (t : Bool) → is_there o to x ≡ t → is_before o from x ≡ false → (is_hit o from to x || list_any (is_hit o from to) ps) ≡ t
    there true f e = ap (λ b. b || list_any (is_hit o from to) ps) (there-hits from to q x.place e f)
    there false f e = (λ i. not-there from to q x.place f i || none ps h.0 e f i)

    by : (b : Bool) → is_before o from x ≡ b
        → list_any (is_hit o from to) ps ≡ is_found o to (slice_get ps (count_while (is_before o from) ps))
        → (is_hit o from to x || list_any (is_hit o from to) ps)
        ≡ is_found o to (slice_get (x ∷ ps) (cond b (suc (count_while (is_before o from) ps)) zero))
    by true e rest = ap (λ b. b || list_any (is_hit o from to) ps) (before-not from to q x.place e) ∙ rest
    by false e rest = there (is_there o to x) refl e

-- ---- places of a list

abbrev differs : Operand → KvRef → Bool
differs o kv = is_ne (operand_cmp o (kv_view kv))

behind : (o : Operand) (lo to i : ℕ) (kvs : List KvRef) → to ≤ i → list_any (is_hit o lo to) (placed_from i kvs) ≡ false
behind o lo to i [] l = refl
behind o lo to i (kv ∷ kvs) l =
    let past : nat_lt i to ≡ false = grind (arith, nat_tests, l) in
    (λ k. not-there lo to (operand_cmp o (kv_view kv)) i (out (operand_cmp o (kv_view kv)) past) k || behind o lo to (suc i) kvs (omega (arith, l)) k)
  where
    out : (q : Ordering) → nat_lt i to ≡ false → stands_before to q i ≡ false
    out Less e = refl
    out Equal e = e
    out Greater e = refl

not-both : (q : Ordering) (b : Bool) → (is_eq q || not b) ≡ not (is_ne q && b)
not-both Less b = refl
not-both Equal b = refl
not-both Greater b = refl

is-eq-and : (q : Ordering) → (is_eq q && (true && true)) ≡ is_eq q
is-eq-and Less = refl
is-eq-and Equal = refl
is-eq-and Greater = refl

eq-and-false : (q : Ordering) (b : Bool) → (is_eq q && (false && b)) ≡ false
eq-and-false Less b = refl
eq-and-false Equal b = refl
eq-and-false Greater b = refl

front : (o : Operand) (lo i t : ℕ) (kvs : List KvRef) → lo ≤ i
    → list_any (is_hit o lo (i + t)) (placed_from i kvs) ≡ not (list_all (differs o) (take t kvs))
front o lo i zero kvs l = behind o lo (i + 0) i kvs (omega arith)
front o lo i (suc t) [] l = refl
front o lo i (suc t) (kv ∷ kvs) l =
    let q : Ordering = operand_cmp o (kv_view kv) in
    let a : nat_le lo i ≡ true = grind (arith, nat_tests, l) in
    let b : nat_lt i (i + suc t) ≡ true = grind (arith, nat_tests) in
    let same : i + suc t ≡ suc i + t = omega arith in
    (λ k. (is_eq q && (a k && b k)) || list_any (is_hit o lo (same k)) (placed_from (suc i) kvs))
    ∙ (λ k. is-eq-and q k || front o lo (suc i) t kvs (omega (arith, l)) k)
    ∙ not-both q (list_all (differs o) (take t kvs))

placed-between : (o : Operand) (i f t : ℕ) (kvs : List KvRef)
    → list_any (is_hit o (i + f) (i + t)) (placed_from i kvs) ≡ not (list_all (differs o) (between f t kvs))
placed-between o i zero t kvs = front o (i + 0) i t kvs (omega arith)
placed-between o i (suc f) zero kvs = behind o (i + suc f) (i + 0) i kvs (omega arith)
placed-between o i (suc f) (suc t) [] = refl
placed-between o i (suc f) (suc t) (kv ∷ kvs) =
    let q : Ordering = operand_cmp o (kv_view kv) in
    let a : nat_le (i + suc f) i ≡ false = grind (arith, nat_tests) in
    let low : i + suc f ≡ suc i + f = omega arith in
    let high : i + suc t ≡ suc i + t = omega arith in
    (λ k. (is_eq q && (a k && nat_lt i (i + suc t))) || list_any (is_hit o (low k) (high k)) (placed_from (suc i) kvs))
    ∙ (λ k. eq-and-false q (nat_lt i (i + suc t)) k || placed-between o (suc i) f t kvs k)

not-not : (b : Bool) → not (not b) ≡ b
not-not true = refl
not-not false = refl

-- none of a part equals the operand where none is found
pub differ-found : (o : Operand) (from to : ℕ) (kvs : List KvRef) (ps : List Placed) → AreOrdered (field_of o) kvs ps
    → not (is_found o to (slice_get ps (count_while (is_before o from) ps))) ≡ list_all (differs o) (between from to kvs)
differ-found o from to kvs ps h =
    ap not (sym (hit-found o from to ps (ordered-rises o ps h.rises)))
    ∙ ap not (sym (list_any-IsPermutation (is_hit o from to) (placed_from 0 kvs) ps h.all))
    ∙ ap not (whole ∙ placed-between o 0 from to kvs)
    ∙ not-not (list_all (differs o) (between from to kvs))
  where
    whole : list_any (is_hit o from to) (placed_from 0 kvs) ≡ list_any (is_hit o (0 + from) (0 + to)) (placed_from 0 kvs)
    whole = let a : from ≡ 0 + from = omega arith in let b : to ≡ 0 + to = omega arith in
        λ k. list_any (is_hit o (a k) (b k)) (placed_from 0 kvs)

-- ---- how they are placed

pub placed-more : (kvs : List KvRef) (i n : ℕ) (d : KvRef) → i < length kvs
    → placed_from n (drop i kvs) ≡ record { kv = get_or kvs i d; place = n } ∷ placed_from (suc n) (drop (suc i) kvs)
placed-more kvs i n d l = ap (placed_from n) (drop-cons kvs i d l)
