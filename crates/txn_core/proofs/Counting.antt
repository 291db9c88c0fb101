-- Keys of a range, counted as a difference of two places.
use Rattle.std.proofs.Common.{Result, Ok, Err, OnOk, ◌≡◌, ℕ, zero, suc, ◌+◌, ◌≤◌, List, [], ◌∷◌, length, Bool, true, false, ◌&&◌, cond, ltb}
use Rattle.std.proofs.Common.{leb, refl, sym, ◌∙◌, ap, subst, arith}
use denote.Ref.{Bor}
use Rattle.std.specs.List.{count_by}
use Rattle.std.specs.List.Sorted.{IsPartitionedBy, IsPartitionPoint, IsPermutation}
use Rattle.std.specs.declared.cmp.Ordering.{Ordering}
use Rattle.std.specs.declared.cmp.Ordering.TheVariants.{Less, Equal, Greater}
use Rattle.std.specs.Ordering.{ordering_reverse, ordering_index, is_lt, is_le, is_eq}
use Rattle.std.specs.Cmp.Lexicographic.{bytes_decides, nat_list_cmp_total}
use Rattle.std.proofs.lemmas.List.Sums.{sum_by-append}
use Rattle.std.proofs.lemmas.Map.Lookups.{exact_bytes}
use Rattle.std.proofs.lemmas.List.Sorted.{searchable_from_sorted, IsPartitionedBy-leb, IsPartitionedBy-ltb, IsPermutation-map}
use Rattle.std.proofs.lemmas.List.Sorted.{sum_by-IsPermutation}
use Rattle.kv_model.specs.Keys.{key_cmp, key_lt, key_le, same_key}
use Rattle.kv_model.specs.Txns.{Touch, collides}
use Rattle.txn_core.specs.Touching.{bit, count_of, count_touched}
use Rattle.txn_core.specs.Views.{keys_view, AreSorted}

-- ---- where halving stops

index-lt : (o : Ordering) → ltb (ordering_index o) 1 ≡ is_lt o
index-lt Less = refl
index-lt Equal = refl
index-lt Greater = refl

index-le : (o : Ordering) → leb (ordering_index o) 1 ≡ is_le o
index-le Less = refl
index-le Equal = refl
index-le Greater = refl

pub partitioned-lt : (x : List ℕ) (ks : List (Bor (List ℕ))) → AreSorted ks → IsPartitionedBy (λ k. key_lt k.now x) ks
partitioned-lt x ks up = subst (λ (p : Bor (List ℕ) → Bool). IsPartitionedBy p ks) (λ i k. index-lt (key_cmp k.now x) i)
    (IsPartitionedBy-ltb (λ k. ordering_index (key_cmp k.now x)) ks 1 (searchable_from_sorted nat_list_cmp_total (λ k. k.now) ks x up))

pub partitioned-le : (x : List ℕ) (ks : List (Bor (List ℕ))) → AreSorted ks → IsPartitionedBy (λ k. key_le k.now x) ks
partitioned-le x ks up = subst (λ (p : Bor (List ℕ) → Bool). IsPartitionedBy p ks) (λ i k. index-le (key_cmp k.now x) i)
    (IsPartitionedBy-leb (λ k. ordering_index (key_cmp k.now x)) ks 1 (searchable_from_sorted nat_list_cmp_total (λ k. k.now) ks x up))

point-count : {X : Type 0} (p : X → Bool) (xs : List X) (n : ℕ) → n ≤ length xs
    → IsPartitionPoint (λ x. p x ≡ true) (λ x. p x ≡ false) xs n → n ≡ count_of p xs
point-count p [] n h t = omega arith
point-count p (x ∷ xs) zero h t =
    let first : bit (p x) ≡ 0 = ap bit (t.1 0 x (omega arith) (omega arith)) in
    let rest : 0 ≡ count_of p xs = point-count p xs zero (omega arith)
    ((λ k d l m. absurd (omega arith)), (λ k d l m. t.1 (suc k) d (omega arith) (omega arith))) in
    omega (arith, first, rest)
point-count p (x ∷ xs) (suc n) h t =
    let first : bit (p x) ≡ 1 = ap bit (t.0 0 x (omega arith) (omega arith)) in
    let rest : n ≡ count_of p xs = point-count p xs n (omega arith)
    ((λ k d l m. t.0 (suc k) d (omega arith) (omega arith)), (λ k d l m. t.1 (suc k) d (omega arith) (omega arith))) in
    omega (arith, first, rest)

count-map : (p : List ℕ → Bool) (ks : List (Bor (List ℕ))) → count_of (λ k. p k.now) ks ≡ count_of p (keys_view ks)
count-map p [] = refl
count-map p (k ∷ ks) = ap (λ n. bit (p k.now) + n) (count-map p ks)

pub count-point : (p : List ℕ → Bool) (ks : List (Bor (List ℕ))) (n : ℕ) → n ≤ length ks
    → IsPartitionPoint (λ k. p k.now ≡ true) (λ k. p k.now ≡ false) ks n → n ≡ count_of p (keys_view ks)
count-point p ks n h t = point-count (λ k. p k.now) ks n h t ∙ count-map p ks

-- ---- differences

sums : {X : Type 0} (p q r : X → Bool) → ((x : X) → bit (p x) ≡ bit (q x) + bit (r x)) → (xs : List X)
    → count_of p xs ≡ count_of q xs + count_of r xs
sums p q r h [] = omega arith
sums p q r h (x ∷ xs) = omega (arith, h x, sums p q r h xs)

same-cmp : (k l : List ℕ) (o : Ordering) → key_cmp k l ≡ o → same_key l k ≡ is_eq o
same-cmp k l o e = by (same_key l k) refl o e
  where
    refl-cmp : (o : Ordering) → o ≡ ordering_reverse o → o ≡ Equal
    refl-cmp Less e = cc
    refl-cmp Equal e = refl
    refl-cmp Greater e = cc

    by : (b : Bool) → same_key l k ≡ b → (o : Ordering) → key_cmp k l ≡ o → b ≡ is_eq o
    by true s o e = let tied : o ≡ Equal = sym e ∙ ap (key_cmp k) ((bytes_decides l k).0 s)
        ∙ refl-cmp (key_cmp k k) (nat_list_cmp_total.antisymm k k) in sym (ap is_eq tied)
    by false s Less e = refl
    by false s Equal e = let f : true ≡ false = sym ((bytes_decides l l).1 refl) ∙ ap (same_key l) (sym (exact_bytes k l e)) ∙ s in cc
    by false s Greater e = refl

-- what is not above a key is below it, or is it
pub count-same : (a : List ℕ) (ks : List (List ℕ))
    → count_of (λ k. key_le k a) ks ≡ count_of (λ k. key_lt k a) ks + count_of (same_key a) ks
count-same a ks = sums (λ k. key_le k a) (λ k. key_lt k a) (same_key a) (λ k. each k (key_cmp k a) refl) ks
  where
    each : (k : List ℕ) (o : Ordering) → key_cmp k a ≡ o → bit (is_le (key_cmp k a)) ≡ bit (is_lt (key_cmp k a)) + bit (same_key a k)
    each k Less e = rw (e, same-cmp k a Less e) refl
    each k Equal e = rw (e, same-cmp k a Equal e) refl
    each k Greater e = rw (e, same-cmp k a Greater e) refl

back : (a k : List ℕ) (o : Ordering) → key_cmp k a ≡ o → key_cmp a k ≡ ordering_reverse o
back a k o e = nat_list_cmp_total.antisymm a k ∙ ap ordering_reverse e

-- a key is below another, or not
count-from : (a : List ℕ) (ks : List (List ℕ)) → length ks ≡ count_of (λ k. key_lt k a) ks + count_of (λ k. key_le a k) ks
count-from a [] = omega arith
count-from a (k ∷ ks) = omega (arith, each (key_cmp k a) refl, count-from a ks)
  where
    each : (o : Ordering) → key_cmp k a ≡ o → bit (is_lt (key_cmp k a)) + bit (is_le (key_cmp a k)) ≡ 1
    each Less e = rw (e, back a k Less e) refl
    each Equal e = rw (e, back a k Equal e) refl
    each Greater e = rw (e, back a k Greater e) refl

-- of keys below an end that is not below the key, those from the key on lie between
pub count-between : (a b : List ℕ) (ks : List (List ℕ)) → key_lt b a ≡ false
    → count_of (λ k. key_lt k b) ks ≡ count_of (λ k. key_lt k a) ks + count_of (λ k. key_le a k && key_lt k b) ks
count-between a b ks h = sums (λ k. key_lt k b) (λ k. key_lt k a) (λ k. key_le a k && key_lt k b)
    (λ k. each k (key_cmp k a) refl (key_cmp k b) refl) ks
  where
    below : (k : List ℕ) → key_cmp k a ≡ Less → (o : Ordering) → key_cmp k b ≡ o → o ≡ Less
    below k e Less f = refl
    below k e Equal f = let bad : true ≡ false = sym (ap is_lt (sym (nat_list_cmp_total.congr k b a f) ∙ e)) ∙ h in cc
    below k e Greater f = let bad : true ≡ false = sym (ap is_lt (nat_list_cmp_total.trans b k a (back b k Greater f) e)) ∙ h in cc

    each : (k : List ℕ) (o : Ordering) → key_cmp k a ≡ o → (p : Ordering) → key_cmp k b ≡ p
        → bit (is_lt (key_cmp k b)) ≡ bit (is_lt (key_cmp k a)) + bit (is_le (key_cmp a k) && is_lt (key_cmp k b))
    each k Less e p f = rw (e, back a k Less e, f, below k e p f) refl
    each k Equal e p f = rw (e, back a k Equal e) (omega arith)
    each k Greater e p f = rw (e, back a k Greater e) (omega arith)

pub count-none : (a b : List ℕ) (ks : List (List ℕ)) → key_lt b a ≡ true → 0 ≡ count_of (λ k. key_le a k && key_lt k b) ks
count-none a b [] h = refl
count-none a b (k ∷ ks) h = omega (arith, each (key_cmp a k) refl, count-none a b ks h)
  where
    lower : (o : Ordering) → key_cmp b a ≡ o → is_lt o ≡ true → o ≡ Less
    lower Less e f = refl
    lower Equal e f = cc
    lower Greater e f = cc

    less : key_cmp b a ≡ Less
    less = lower (key_cmp b a) refl h

    no : key_cmp k b ≡ Greater → bit (is_lt (key_cmp k b)) ≡ 0
    no e = rw e refl

    each : (o : Ordering) → key_cmp a k ≡ o → bit (is_le (key_cmp a k) && is_lt (key_cmp k b)) ≡ 0
    each Less e = rw e (no (back k b Less (nat_list_cmp_total.trans b a k less e)))
    each Equal e = rw e (no (sym (nat_list_cmp_total.congr a k b e) ∙ back a b Less less))
    each Greater e = rw e refl

-- ---- sorting changes no count

count-is : {X : Type 0} (p : X → Bool) (xs : List X) → count_of p xs ≡ count_by p xs
count-is p [] = refl
count-is p (x ∷ xs) = omega (arith, first (p x), count-is p xs, sum_by-append (λ x. cond (p x) 1 0) (x ∷ []) xs)
  where
    first : (b : Bool) → bit b ≡ 0 + cond b 1 0
    first true = refl
    first false = refl

pub count-sorted : (t : Touch) (xs ys : List (Bor (List ℕ))) → IsPermutation xs ys
    → count_touched t (keys_view ys) ≡ count_touched t (keys_view xs)
count-sorted t xs ys h =
    let p : List ℕ → Bool = λ k. collides t (Touch.one k) in
    count-is p (keys_view ys) ∙ sum_by-IsPermutation (λ k. cond (p k) 1 0) (keys_view xs) (keys_view ys)
    (IsPermutation-map (λ k. k.now) xs ys h) ∙ sym (count-is p (keys_view xs))

pub on-ok : {A E : Type 0} (r : Result A E) (P : Type 0) → P → OnOk r P
on-ok (Ok x) P p = p
on-ok (Err x) P p = tt

-- ---- counts of all, and of what passes equal tests

length-view : (ks : List (Bor (List ℕ))) → length ks ≡ length (keys_view ks)
length-view [] = refl
length-view (k ∷ ks) = ap suc (length-view ks)

pub count-all : (ks : List (Bor (List ℕ))) → length ks ≡ count_of (λ k. true) (keys_view ks)
count-all [] = refl
count-all (k ∷ ks) = omega (arith, count-all ks)

pub counts-same : (p q : List ℕ → Bool) → ((k : List ℕ) → p k ≡ q k) → (ks : List (List ℕ)) → count_of p ks ≡ count_of q ks
counts-same p q h ks = λ i. count_of (λ k. h k i) ks

-- the keys from one on are those that are not below it
pub from-counted : (a : List ℕ) (p : List ℕ → Bool) → ((k : List ℕ) → key_le a k ≡ p k) → (ks : List (Bor (List ℕ)))
    → length ks ≡ count_of (λ k. key_lt k a) (keys_view ks) + count_of p (keys_view ks)
from-counted a p h ks = length-view ks ∙ count-from a (keys_view ks)
    ∙ ap (λ n. count_of (λ k. key_lt k a) (keys_view ks) + n) (counts-same (key_le a) p h (keys_view ks))
