-- The order of keys, and which keys of a range are below one of it.
use Rattle.std.proofs.Common.{◌≡◌, ℕ, List, [], ◌∷◌, Bool, true, false, ◌&&◌, ◌<◌, cond, refl, sym, ◌∙◌, ap, arith}
use Rattle.std.specs.declared.cmp.Ordering.{Ordering}
use Rattle.std.specs.declared.cmp.Ordering.TheVariants.{Less, Equal, Greater}
use Rattle.std.specs.Ordering.{MatchOrdering, is_le, is_lt, nat_cmp, ordering_reverse, ordering_then}
use Rattle.std.specs.Cmp.{ranks}
use Rattle.std.specs.Cmp.Lexicographic.{nat_list_cmp_total, slice_cmp}
use Rattle.std.proofs.lemmas.Map.Lookups.{exact_bytes}
use Rattle.kv_model.specs.declared.version.KeyRange.{KeyRange}
use Rattle.kv_model.specs.Keys.{in_range, key_cmp, key_le, key_lt, same_key, zero_byte}
use Rattle.kv_model.specs.Lists.{is_empty}
use Rattle.store_laws.proofs.HistoryLaws.{same_key-eq}
use Rattle.long_ranges.specs.Laws.{IsCut, below, from}

-- ---- the order of keys

pub lt_trans : (a b c : List ℕ) → key_lt a b ≡ true → key_lt b c ≡ true → key_lt a c ≡ true
lt_trans a b c h g = by (key_cmp a b) refl h (key_cmp b c) refl g
  where
    by : (o : Ordering) → key_cmp a b ≡ o → is_lt o ≡ true → (q : Ordering) → key_cmp b c ≡ q → is_lt q ≡ true → key_lt a c ≡ true
    by Less e h Less f g = ap is_lt (nat_list_cmp_total.trans a b c e f)
    by Less e h Equal f g = cc
    by Less e h Greater f g = cc
    by Equal e h q f g = cc
    by Greater e h q f g = cc

pub le_trans : (a b c : List ℕ) → key_le a b ≡ true → key_le b c ≡ true → key_le a c ≡ true
le_trans a b c h g = by (key_cmp a b) refl h (key_cmp b c) refl g
  where
    by : (o : Ordering) → key_cmp a b ≡ o → is_le o ≡ true → (q : Ordering) → key_cmp b c ≡ q → is_le q ≡ true → key_le a c ≡ true
    by Less e h Less f g = ap is_le (nat_list_cmp_total.trans a b c e f)
    by Less e h Equal f g = ap (λ x. key_le a x) (sym (exact_bytes b c f)) ∙ ap is_le e
    by Less e h Greater f g = cc
    by Equal e h q f g = ap (λ x. key_le x c) (exact_bytes a b e) ∙ ap is_le f ∙ g
    by Greater e h q f g = cc

-- what is below a key that is not above a third is below that
pub not_below : (a b c : List ℕ) → key_lt a c ≡ false → key_cmp a b ≡ Less → key_lt b c ≡ false
not_below a b c h e = by (key_lt b c) refl
  where
    by : (t : Bool) → key_lt b c ≡ t → t ≡ false
    by true f = let g : true ≡ false = sym (lt_trans a b c (ap is_lt e) f) ∙ h in cc
    by false f = refl

pub from_on : (a b : List ℕ) → key_lt a b ≡ false → key_le b a ≡ true
from_on a b h = by (key_cmp a b) h (nat_list_cmp_total.antisymm b a)
  where
    by : (o : Ordering) → is_lt o ≡ false → key_cmp b a ≡ ordering_reverse o → key_le b a ≡ true
    by Less h e = cc
    by Equal h e = ap is_le e
    by Greater h e = ap is_le e

pub not_from : (a b : List ℕ) → key_lt a b ≡ true → key_le b a ≡ false
not_from a b h = by (key_cmp a b) h (nat_list_cmp_total.antisymm b a)
  where
    by : (o : Ordering) → is_lt o ≡ true → key_cmp b a ≡ ordering_reverse o → key_le b a ≡ false
    by Less h e = ap is_le e
    by Equal h e = cc
    by Greater h e = cc

-- ---- the keys of a range

abbrev ends_last : KeyRange → Bool
ends_last r = same_key r.end zero_byte

abbrev begins_first : KeyRange → Bool
begins_first r = same_key r.key zero_byte

-- of a range of several keys
abbrev has : Bool → Bool → Bool → Bool → Bool
has last first above under = cond (last && first) true (cond last above (above && under))

several : (r : KeyRange) (x : List ℕ) → is_empty r.end ≡ false
    → in_range r x ≡ has (ends_last r) (begins_first r) (key_le r.key x) (key_lt x r.end)
several r x e = ap (λ b. cond b (same_key x r.key) (has (ends_last r) (begins_first r) (key_le r.key x) (key_lt x r.end))) e

module _ (r : KeyRange) (k : List ℕ) (e : is_empty r.end ≡ false) (c : IsCut r k) where
  cut : has (ends_last r) (begins_first r) (key_le r.key k) (key_lt k r.end) ≡ true
  cut = sym (several r k e) ∙ c.within

  -- below the key
  lower : (x : List ℕ) → in_range (below r k) x ≡ (key_le r.key x && key_lt x k)
  lower x = several (below r k) x c.has_bytes
      ∙ ap (λ b. has b (begins_first r) (key_le r.key x) (key_lt x k)) c.is_end

  -- and from it on
  and_false : (b : Bool) → (b && false) ≡ false
  and_false true = refl
  and_false false = refl

  upper : (x : List ℕ) → in_range (from r k) x ≡ cond (ends_last r) (key_le k x) (key_le k x && key_lt x r.end)
  upper x = several (from r k) x e
      ∙ ap (λ b. cond (ends_last r && b) true (cond (ends_last r) (key_le k x) (key_le k x && key_lt x r.end))) c.is_end
      ∙ ap (λ b. cond b true (cond (ends_last r) (key_le k x) (key_le k x && key_lt x r.end))) (and_false (ends_last r))

  -- each key that has a byte is from the byte 0 on
  has_byte : (x : List ℕ) → is_empty x ≡ false → key_le zero_byte x ≡ true
  has_byte [] h = cc
  has_byte (n ∷ ns) h = by (nat_cmp 0 n) (ranks 0 n) ns
    where
      by : (o : Ordering) → MatchOrdering o (0 < n) (0 ≡ n) (n < 0) → (ns : List ℕ) → is_le (ordering_then o (slice_cmp nat_cmp [] ns)) ≡ true
      by Less m ns = refl
      by Equal m [] = refl
      by Equal m (x ∷ xs) = refl
      by Greater m ns = absurd (omega arith)

  -- of the keys below it those are in the range that are in its lower part
  pub in_lower : (x : List ℕ) → is_empty x ≡ false → key_lt x k ≡ true → in_range (below r k) x ≡ in_range r x
  in_lower x some l = lower x ∙ by (ends_last r) (begins_first r) refl cut ∙ sym (several r x e)
    where
      by : (last first : Bool) → begins_first r ≡ first → has last first (key_le r.key k) (key_lt k r.end) ≡ true
          → (key_le r.key x && key_lt x k) ≡ has last first (key_le r.key x) (key_lt x r.end)
      by true true f h = ap (λ b. key_le r.key x && b) l ∙ ap (λ b. b && true) (ap (λ y. key_le y x) (same_key-eq r.key zero_byte f) ∙ has_byte x some)
      by true false f h = ap (λ b. key_le r.key x && b) l ∙ and_true (key_le r.key x)
        where
          and_true : (b : Bool) → (b && true) ≡ b
          and_true true = refl
          and_true false = refl
      by false first f h = ap (λ b. key_le r.key x && b) (l ∙ sym (lt_trans x k r.end l (second (key_le r.key k) (key_lt k r.end) h)))
        where
          second : (a b : Bool) → (a && b) ≡ true → b ≡ true
          second true b h = h
          second false b h = cc

  pub not_upper : (x : List ℕ) → key_lt x k ≡ true → in_range (from r k) x ≡ false
  not_upper x l = upper x ∙ by (ends_last r)
    where
      by : (last : Bool) → cond last (key_le k x) (key_le k x && key_lt x r.end) ≡ false
      by true = not_from x k l
      by false = ap (λ b. b && key_lt x r.end) (not_from x k l)

  -- and of those from it on those that are in its upper part
  pub not_lower : (x : List ℕ) → key_lt x k ≡ false → in_range (below r k) x ≡ false
  not_lower x l = lower x ∙ ap (λ b. key_le r.key x && b) l ∙ and_false (key_le r.key x)

  pub in_upper : (x : List ℕ) → key_lt x k ≡ false → in_range (from r k) x ≡ in_range r x
  in_upper x l = upper x ∙ by (ends_last r) (begins_first r) cut ∙ sym (several r x e)
    where
      on : key_le k x ≡ true
      on = from_on x k l

      first : (a b : Bool) → (a && b) ≡ true → a ≡ true
      first true b h = refl
      first false b h = cc

      by : (last begins : Bool) → has last begins (key_le r.key k) (key_lt k r.end) ≡ true
          → cond last (key_le k x) (key_le k x && key_lt x r.end) ≡ has last begins (key_le r.key x) (key_lt x r.end)
      by true true h = on
      by true false h = on ∙ sym (le_trans r.key k x h on)
      by false begins h = ap (λ b. b && key_lt x r.end) (on ∙ sym (le_trans r.key k x (first (key_le r.key k) (key_lt k r.end) h) on))
