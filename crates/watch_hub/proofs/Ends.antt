-- Where ranges begin and end: what a key that is before a range, or behind it, says of those beside it.
use Rattle.std.proofs.Common.{◌≡◌, ℕ, List, [], ◌∷◌, Bool, true, false, ◌&&◌, cond, refl, sym, ◌∙◌, ap}
use Rattle.std.specs.declared.cmp.Ordering.{Ordering}
use Rattle.std.specs.declared.cmp.Ordering.TheVariants.{Less, Equal, Greater}
use Rattle.std.specs.Ordering.{ordering_reverse, is_lt, is_le}
use Rattle.std.specs.Cmp.Lexicographic.{nat_list_cmp_total}
use Rattle.std.proofs.lemmas.Map.Lookups.{exact_bytes}
use Rattle.std.proofs.lemmas.Bool.{and_right}
use Rattle.kv_model.specs.declared.version.KeyRange.{KeyRange}
use Rattle.kv_model.specs.Keys.{key_cmp, key_lt, key_le, same_key, in_range, zero_byte}
use Rattle.kv_model.specs.Lists.{is_empty}
use Rattle.store_laws.proofs.HistoryLaws.{same_key-eq}
use Rattle.store_laws.proofs.KeyLaws.{cmp-refl}
use Rattle.watch_hub.specs.Guards.{has_begun, is_past, ends_at, ends_by, EndsBy}

-- ---- keys in order

pub le-trans : (a b c : List ℕ) → key_le a b ≡ true → key_le b c ≡ true → key_le a c ≡ true
le-trans a b c h g = by (key_cmp a b) refl h (key_cmp b c) refl g
  where
    by : (o : Ordering) → key_cmp a b ≡ o → is_le o ≡ true → (p : Ordering) → key_cmp b c ≡ p → is_le p ≡ true → key_le a c ≡ true
    by Less e h Less f g = ap is_le (nat_list_cmp_total.trans a b c e f)
    by Less e h Equal f g = ap is_le (ap (λ k. key_cmp a k) (sym (exact_bytes b c f)) ∙ e)
    by Less e h Greater f g = cc
    by Equal e h p f g = ap (λ k. is_le (key_cmp k c)) (exact_bytes a b e) ∙ ap is_le f ∙ g
    by Greater e h p f g = cc

lt_le-trans : (a b c : List ℕ) → key_lt a b ≡ true → key_le b c ≡ true → key_lt a c ≡ true
lt_le-trans a b c h g = by (key_cmp a b) refl h (key_cmp b c) refl g
  where
    by : (o : Ordering) → key_cmp a b ≡ o → is_lt o ≡ true → (p : Ordering) → key_cmp b c ≡ p → is_le p ≡ true → key_lt a c ≡ true
    by Less e h Less f g = ap is_lt (nat_list_cmp_total.trans a b c e f)
    by Less e h Equal f g = ap is_lt (ap (λ k. key_cmp a k) (sym (exact_bytes b c f)) ∙ e)
    by Less e h Greater f g = cc
    by Equal e h p f g = cc
    by Greater e h p f g = cc

le_lt-trans : (a b c : List ℕ) → key_le a b ≡ true → key_lt b c ≡ true → key_lt a c ≡ true
le_lt-trans a b c h g = by (key_cmp a b) refl h
  where
    less : (o : Ordering) → is_lt o ≡ true → o ≡ Less
    less Less f = refl
    less Equal f = cc
    less Greater f = cc

    by : (o : Ordering) → key_cmp a b ≡ o → is_le o ≡ true → key_lt a c ≡ true
    by Less e h = ap is_lt (nat_list_cmp_total.trans a b c e (less (key_cmp b c) g))
    by Equal e h = ap (λ k. is_lt (key_cmp k c)) (exact_bytes a b e) ∙ g
    by Greater e h = cc

lt-le : (a b : List ℕ) → key_lt a b ≡ true → key_le a b ≡ true
lt-le a b h = by (key_cmp a b) h
  where
    by : (o : Ordering) → is_lt o ≡ true → is_le o ≡ true
    by Less f = refl
    by Equal f = cc
    by Greater f = cc

pub le-not_lt : (a b : List ℕ) → key_le a b ≡ true → key_lt b a ≡ false
le-not_lt a b h = by (key_cmp a b) h (nat_list_cmp_total.antisymm b a)
  where
    by : (o : Ordering) → is_le o ≡ true → key_cmp b a ≡ ordering_reverse o → key_lt b a ≡ false
    by Less f e = ap is_lt e
    by Equal f e = ap is_lt e
    by Greater f e = cc

pub not_le-le : (a b : List ℕ) → key_le a b ≡ false → key_le b a ≡ true
not_le-le a b h = by (key_cmp a b) h (nat_list_cmp_total.antisymm b a)
  where
    by : (o : Ordering) → is_le o ≡ false → key_cmp b a ≡ ordering_reverse o → key_le b a ≡ true
    by Less f e = cc
    by Equal f e = cc
    by Greater f e = ap is_le e

-- a key that is not what stands in the range's place is another
other-key : (k l : List ℕ) → (same_key k l ≡ true → false ≡ true) → same_key k l ≡ false
other-key k l h = by (same_key k l) refl
  where
    by : (b : Bool) → same_key k l ≡ b → b ≡ false
    by true e = sym (h e)
    by false e = refl

-- ---- before a range, and behind it

pub empty_first : (k : List ℕ) → key_le [] k ≡ true
empty_first [] = refl
empty_first (x ∷ k) = refl

pub unbegun-outside : (r : KeyRange) (k : List ℕ) → has_begun r k ≡ false → in_range r k ≡ false
unbegun-outside r k h = by (same_key r.end zero_byte) (same_key r.key zero_byte) h
  where
    one : key_le r.key k ≡ false → same_key k r.key ≡ false
    one g = other-key k r.key (λ e. sym (sym (ap (λ l. key_le l k) (sym (same_key-eq k r.key e)) ∙ ap is_le (cmp-refl k)) ∙ g))

    each : (a b : Bool) → key_le r.key k ≡ false → (e : Bool) → (a && b) ≡ false
        → cond e (same_key k r.key) (cond (a && b) true (cond a (key_le r.key k) (key_le r.key k && key_lt k r.end))) ≡ false
    each a b g true n = one g
    each true true g false n = cc
    each true false g false n = g
    each false b g false n = ap (λ t. t && key_lt k r.end) g

    by : (a b : Bool) → key_le (cond (a && b) [] r.key) k ≡ false
        → cond (is_empty r.end) (same_key k r.key) (cond (a && b) true (cond a (key_le r.key k) (key_le r.key k && key_lt k r.end))) ≡ false
    by true true g = let f : true ≡ false = sym (empty_first k) ∙ g in cc
    by true false g = each true false g (is_empty r.end) refl
    by false b g = each false b g (is_empty r.end) refl

pub past-outside : (r : KeyRange) (k : List ℕ) → is_past r k ≡ true → in_range r k ≡ false
past-outside r k h = by (is_empty r.end) (same_key r.end zero_byte) h
  where
    one : key_lt r.key k ≡ true → same_key k r.key ≡ false
    one g = other-key k r.key (λ e. sym (ap is_lt (cmp-refl k)) ∙ ap (λ l. key_lt l k) (same_key-eq k r.key e) ∙ g)

    by : (e a : Bool) → cond e (key_lt r.key k) (cond a false (key_le r.end k)) ≡ true
        → cond e (same_key k r.key) (cond (a && same_key r.key zero_byte) true (cond a (key_le r.key k) (key_le r.key k && key_lt k r.end)))
        ≡ false
    by true a g = one g
    by false true g = cc
    by false false g = and_right (key_le r.key k) (key_lt k r.end) (le-not_lt r.end k g)

past-later : (r : KeyRange) (b k : List ℕ) → is_past r b ≡ true → key_le b k ≡ true → is_past r k ≡ true
past-later r b k h g = by (is_empty r.end) (same_key r.end zero_byte) h
  where
    by : (e a : Bool) → cond e (key_lt r.key b) (cond a false (key_le r.end b)) ≡ true
        → cond e (key_lt r.key k) (cond a false (key_le r.end k)) ≡ true
    by true a f = lt_le-trans r.key b k f g
    by false true f = cc
    by false false f = le-trans r.end b k f g

end-passed : (r : KeyRange) (b k : List ℕ) → ends_at r b ≡ true → key_lt b k ≡ true → is_past r k ≡ true
end-passed r b k h g = by (is_empty r.end) (same_key r.end zero_byte) h
  where
    by : (e a : Bool) → cond e (key_le r.key b) (cond e (key_lt r.key b) (cond a false (key_le r.end b))) ≡ true
        → cond e (key_lt r.key k) (cond a false (key_le r.end k)) ≡ true
    by true a f = le_lt-trans r.key b k f g
    by false true f = cc
    by false false f = le-trans r.end b k f (lt-le b k g)

pub ends-before : (r s : KeyRange) → ends_by r s ≡ true → EndsBy r s
ends-before r s h k g = by (is_empty s.end) (same_key s.end zero_byte) h g
  where
    by : (e a : Bool) → cond e (ends_at r s.key) (cond a true (is_past r s.end)) ≡ true
        → cond e (key_lt s.key k) (cond a false (key_le s.end k)) ≡ true → is_past r k ≡ true
    by true a f i = end-passed r s.key k f i
    by false true f i = cc
    by false false f i = past-later r s.end k f i
