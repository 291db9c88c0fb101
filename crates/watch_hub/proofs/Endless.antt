-- Which ranges have all keys from one on, by what a span says of each key.
use Rattle.std.proofs.Common.{◌≡◌, ℕ, ◌+◌, List, [], ◌∷◌, ◌++◌, length, Bool, true, false, ◌&&◌, cond, refl, sym, ◌∙◌, ap, arith}
use Rattle.std.specs.declared.cmp.Ordering.{Ordering}
use Rattle.std.specs.declared.cmp.Ordering.TheVariants.{Less, Equal, Greater}
use Rattle.std.specs.Ordering.{ordering_reverse, ordering_then, is_le}
use Rattle.std.proofs.lemmas.Cmp.{nat_cmp_total, nat_list_cmp_total, tied_itself}
use Rattle.std.proofs.lemmas.List.{length_push}
use Rattle.std.proofs.lemmas.Map.Lookups.{exact_bytes}
use Rattle.kv_model.specs.declared.version.KeyRange.{KeyRange}
use Rattle.kv_model.specs.Keys.{key_cmp, key_lt, key_le, same_key, in_range, zero_byte}
use Rattle.kv_model.specs.Lists.{is_empty}
use Rattle.store_laws.proofs.HistoryLaws.{same_key-eq}
use Rattle.store_laws.proofs.KeyLaws.{cmp-refl}
use Rattle.watch_hub.specs.Guards.{first_key}
use Rattle.watch_hub.proofs.Ends.{empty_first, le-not_lt, not_le-le}

-- ---- keys from one on

le-refl : (k : List ℕ) → key_le k k ≡ true
le-refl k = ap is_le (cmp-refl k)

le-both : (a b : List ℕ) → key_le a b ≡ true → key_le b a ≡ true → a ≡ b
le-both a b h g = by (key_cmp a b) refl h (nat_list_cmp_total.antisymm b a)
  where
    by : (o : Ordering) → key_cmp a b ≡ o → is_le o ≡ true → key_cmp b a ≡ ordering_reverse o → a ≡ b
    by Less e f r = let n : true ≡ false = sym g ∙ ap is_le r in cc
    by Equal e f r = exact_bytes a b e
    by Greater e f r = cc

behind : (k : List ℕ) → key_le k (k ++ 0 ∷ []) ≡ true
behind [] = refl
behind (x ∷ k) = ap (λ o. is_le (ordering_then o (key_cmp k (k ++ 0 ∷ [])))) (tied_itself nat_cmp_total x) ∙ behind k

and-right : (a b : Bool) → (a && b) ≡ true → b ≡ true
and-right true b h = h
and-right false b h = cc

-- they are more than one
not_one : (b one : List ℕ) → ((k : List ℕ) → key_le b k ≡ true → same_key k one ≡ true) → ⊥
not_one b one h =
    let same : b ≡ b ++ 0 ∷ []
    = same_key-eq b one (h b (le-refl b)) ∙ sym (same_key-eq (b ++ 0 ∷ []) one (h (b ++ 0 ∷ []) (behind b))) in
    let longer : length b ≡ length b + 1 = ap length same ∙ length_push b 0 in
    omega (arith, longer)

-- they are not all before another
not_below : (b to : List ℕ) → ((k : List ℕ) → key_le b k ≡ true → key_lt k to ≡ true) → ⊥
not_below b to h = by (key_le to b) refl
  where
    by : (t : Bool) → key_le to b ≡ t → ⊥
    by true e = let n : true ≡ false = sym (h b (le-refl b)) ∙ le-not_lt to b e in cc
    by false e = let n : true ≡ false = sym (h to (not_le-le to b e)) ∙ le-not_lt to to (le-refl to) in cc

-- ---- ranges

-- one that ends nowhere has all keys from its first on
from-first : (r : KeyRange) → same_key r.end zero_byte ≡ true → (k : List ℕ) → in_range r k ≡ key_le (first_key r) k
from-first r h k = (λ i. whole (same_key-eq r.end zero_byte h i) (h i)) ∙ by (same_key r.key zero_byte)
    ∙ sym (ap (λ b. key_le (cond (b && same_key r.key zero_byte) [] r.key) k) h)
  where
    whole : List ℕ → Bool → Bool
    whole e a = cond (is_empty e) (same_key k r.key)
        (cond (a && same_key r.key zero_byte) true (cond a (key_le r.key k) (key_le r.key k && key_lt k r.end)))

    by : (z : Bool) → cond z true (key_le r.key k) ≡ key_le (cond z [] r.key) k
    by true = sym (empty_first k)
    by false = refl

-- one that has all keys from one on ends nowhere
pub endless : (r : KeyRange) (b : List ℕ) → ((k : List ℕ) → key_le b k ≡ in_range r k) → same_key r.end zero_byte ≡ true
endless r b h = by (is_empty r.end) (same_key r.end zero_byte) (λ k l. sym (h k) ∙ l)
  where
    by : (e a : Bool) → ((k : List ℕ) → key_le b k ≡ true
        → cond e (same_key k r.key) (cond (a && same_key r.key zero_byte) true (cond a (key_le r.key k) (key_le r.key k && key_lt k r.end)))
        ≡ true) → a ≡ true
    by e true g = refl
    by true false g = absurd (not_one b r.key g)
    by false false g = absurd (not_below b r.end (λ k l. and-right (key_le r.key k) _ (g k l)))

-- and that one is its first
pub first-endless : (r : KeyRange) (b : List ℕ) → ((k : List ℕ) → key_le b k ≡ in_range r k) → b ≡ first_key r
first-endless r b h = le-both b (first_key r) (each (first_key r) ∙ le-refl (first_key r)) (sym (each b) ∙ le-refl b)
  where
    each : (k : List ℕ) → key_le b k ≡ key_le (first_key r) k
    each k = h k ∙ from-first r (endless r b h) k

pub all-endless : (r : KeyRange) → ((k : List ℕ) → true ≡ in_range r k) → (k : List ℕ) → key_le [] k ≡ in_range r k
all-endless r h k = empty_first k ∙ h k

-- one that has one key alone ends, and so does one all of whose keys are before another
pub one-ends : (r : KeyRange) (one : List ℕ) → ((k : List ℕ) → same_key k one ≡ in_range r k) → same_key r.end zero_byte ≡ false
one-ends r one h = by (same_key r.end zero_byte) refl
  where
    by : (b : Bool) → same_key r.end zero_byte ≡ b → b ≡ false
    by true e = absurd (not_one (first_key r) one (λ k l. h k ∙ from-first r e k ∙ l))
    by false e = refl

pub interval-ends : (r : KeyRange) (from to : List ℕ) → ((k : List ℕ) → (key_le from k && key_lt k to) ≡ in_range r k)
    → same_key r.end zero_byte ≡ false
interval-ends r from to h = by (same_key r.end zero_byte) refl
  where
    by : (b : Bool) → same_key r.end zero_byte ≡ b → b ≡ false
    by true e = absurd (not_below (first_key r) to (λ k l. and-right (key_le from k) _ (h k ∙ from-first r e k ∙ l)))
    by false e = refl

pub first-ends : (r : KeyRange) → same_key r.end zero_byte ≡ false → r.key ≡ first_key r
first-ends r h = sym (ap (λ b. cond (b && same_key r.key zero_byte) [] r.key) h)
