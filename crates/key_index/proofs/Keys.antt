-- Keys in order, and the bounds of a range.
use Rattle.std.proofs.Common.{◌≡◌, ℕ, List, Bool, true, false, not, ◌&&◌, refl, sym, ◌∙◌, ap}
use Rattle.std.specs.declared.cmp.Ordering.{Ordering}
use Rattle.std.specs.declared.cmp.Ordering.TheVariants.{Less, Equal, Greater}
use Rattle.std.specs.Ordering.{ordering_reverse, is_eq, is_lt, is_le, is_gt}
use Rattle.std.specs.Cmp.Lexicographic.{nat_list_cmp_total}
use Rattle.std.proofs.lemmas.Map.Lookups.{exact_bytes}
use Rattle.kv_model.specs.Keys.{key_cmp, key_lt, key_le, same_key}
use Rattle.store_laws.proofs.HistoryLaws.{same_key-eq}
use Rattle.store_laws.proofs.KeyLaws.{same-refl, cmp-refl}

pub less-greater : (k l : List ℕ) → key_cmp k l ≡ Greater → key_cmp l k ≡ Less
less-greater k l e = nat_list_cmp_total.antisymm l k ∙ ap ordering_reverse e

-- the order ties just what is the same
pub eq-same : (q k : List ℕ) → is_eq (key_cmp q k) ≡ same_key k q
eq-same q k = by (same_key k q) refl
  where
    no : (o : Ordering) → key_cmp q k ≡ o → same_key k q ≡ false → is_eq o ≡ false
    no Less e h = refl
    no Equal e h = let f : true ≡ false = sym (same-refl q) ∙ ap (λ l. same_key l q) (exact_bytes q k e) ∙ h in cc
    no Greater e h = refl

    by : (b : Bool) → same_key k q ≡ b → is_eq (key_cmp q k) ≡ b
    by true e = ap (λ l. is_eq (key_cmp q l)) (same_key-eq k q e) ∙ ap is_eq (cmp-refl q)
    by false e = no (key_cmp q k) refl e

-- ---- bounds

one_key-cmp : (a k : List ℕ) → (o : Ordering) → key_cmp a k ≡ o → (is_le o && not (is_lt o)) ≡ is_eq o
one_key-cmp a k Less e = refl
one_key-cmp a k Equal e = refl
one_key-cmp a k Greater e = refl

pub contains-one : (a k : List ℕ) → (is_le (key_cmp a k) && not (is_lt (key_cmp a k))) ≡ same_key k a
contains-one a k = one_key-cmp a k (key_cmp a k) refl ∙ eq-same a k

turned : (o p : Ordering) → o ≡ ordering_reverse p → not (is_le o) ≡ is_lt p
turned o Less e = ap (λ x. not (is_le x)) e
turned o Equal e = ap (λ x. not (is_le x)) e
turned o Greater e = ap (λ x. not (is_le x)) e

pub contains-below : (a b k : List ℕ) → (is_le (key_cmp a k) && not (is_le (key_cmp b k))) ≡ (key_le a k && key_lt k b)
contains-below a b k = ap (λ t. is_le (key_cmp a k) && t) (turned (key_cmp b k) (key_cmp k b) (nat_list_cmp_total.antisymm b k))

less : (o : Ordering) → is_lt o ≡ true → o ≡ Less
less Less h = refl
less Equal h = cc
less Greater h = cc

-- nothing is above the key and below an end that is below the key
pub contains-none : (a b k : List ℕ) → is_lt (key_cmp b a) ≡ true → (is_le (key_cmp a k) && not (is_le (key_cmp a k))) ≡ (key_le a k && key_lt k b)
contains-none a b k h = by (key_cmp a k) refl (key_cmp k b) refl
  where
    below : key_cmp b a ≡ Less
    below = less (key_cmp b a) h

    none : key_cmp a b ≡ Less → false ≡ true
    none e =
        let f : key_cmp b b ≡ Less = nat_list_cmp_total.trans b a b below e in
        let g : Less ≡ Equal = sym f ∙ cmp-refl b in
        cc

    by : (o : Ordering) → key_cmp a k ≡ o → (p : Ordering) → key_cmp k b ≡ p → (is_le o && not (is_le o)) ≡ (is_le o && is_lt p)
    by Less e Less f = none (nat_list_cmp_total.trans a k b e f)
    by Less e Equal f = refl
    by Less e Greater f = refl
    by Equal e Less f = none (ap (λ j. key_cmp j b) (exact_bytes a k e) ∙ f)
    by Equal e Equal f = refl
    by Equal e Greater f = refl
    by Greater e p f = refl

pub forward-same : (a : List ℕ) → is_gt (key_cmp a a) ≡ false
forward-same a = ap is_gt (cmp-refl a)

pub forward : (a b : List ℕ) → is_lt (key_cmp b a) ≡ false → is_gt (key_cmp a b) ≡ false
forward a b h = by (key_cmp b a) h (nat_list_cmp_total.antisymm a b)
  where
    by : (o : Ordering) → is_lt o ≡ false → key_cmp a b ≡ ordering_reverse o → is_gt (key_cmp a b) ≡ false
    by Less h e = cc
    by Equal h e = ap is_gt e
    by Greater h e = ap is_gt e
