-- The key of an index before which so many stand.
use Rattle.std.proofs.Common.{◌≡◌, ℕ, zero, suc, List, [], ◌∷◌, Bool, true, false, cond, Some, refl, sym, ◌∙◌, ap}
use Rattle.std.specs.List.{AllByRecursion}
use Rattle.std.specs.declared.cmp.Ordering.{Ordering}
use Rattle.std.specs.declared.cmp.Ordering.TheVariants.{Less, Equal, Greater}
use Rattle.std.specs.Ordering.{is_le, is_lt}
use Rattle.std.specs.Cmp.Lexicographic.{nat_list_cmp_total}
use Rattle.std.proofs.lemmas.Map.Lookups.{exact_bytes}
use Rattle.kv_model.specs.declared.version.Rev.{Rev}
use Rattle.kv_model.specs.Keys.{key_cmp, key_le, key_lt}
use Rattle.key_pages.specs.Pairs.{IsAscending, from_key}
use Rattle.key_index.specs.Index.{Index, nth_of}

le_lt : (a b c : List ℕ) → key_le a b ≡ true → key_cmp b c ≡ Less → key_lt a c ≡ true
le_lt a b c h e = by (key_cmp a b) refl h
  where
    by : (o : Ordering) → key_cmp a b ≡ o → is_le o ≡ true → key_lt a c ≡ true
    by Less f h = ap is_lt (nat_list_cmp_total.trans a b c f e)
    by Equal f h = ap (λ x. key_lt x c) (exact_bytes a b f) ∙ ap is_lt e
    by Greater f h = cc

-- of keys behind one, each that is chosen is behind it
chosen : (a b : List ℕ) → key_le a b ≡ true → (es : Index) → AllByRecursion (λ (f : List ℕ × List Rev). key_cmp b f.0 ≡ Less) es
    → (n : ℕ) → (k : List ℕ) → nth_of n (from_key a es) ≡ Some k → key_lt a k ≡ true
chosen a b h [] all n k e = cc
chosen a b h (f ∷ fs) all n k e = by (key_le a f.0) n e (λ m. chosen a b h fs all.1 m k)
  where
    by : (t : Bool) → (n : ℕ) → nth_of n (cond t (f ∷ from_key a fs) (from_key a fs)) ≡ Some k
        → ((m : ℕ) → nth_of m (from_key a fs) ≡ Some k → key_lt a k ≡ true) → key_lt a k ≡ true
    by true zero e rest = let g : f.0 ≡ k = cc in ap (λ x. key_lt a x) (sym g) ∙ le_lt a b f.0 h all.0
    by true (suc n) e rest = rest n e
    by false n e rest = rest n e

-- behind the first of the keys from one on all are above that one
pub above : (a : List ℕ) (es : Index) → IsAscending es → (n : ℕ) → (k : List ℕ) → nth_of (suc n) (from_key a es) ≡ Some k → key_lt a k ≡ true
above a [] h n k e = cc
above a (f ∷ fs) h n k e = by (key_le a f.0) refl e (above a fs h.1 n k)
  where
    by : (t : Bool) → key_le a f.0 ≡ t → nth_of (suc n) (cond t (f ∷ from_key a fs) (from_key a fs)) ≡ Some k
        → (nth_of (suc n) (from_key a fs) ≡ Some k → key_lt a k ≡ true) → key_lt a k ≡ true
    by true g e rest = chosen a f.0 g fs h.0 n k e
    by false g e rest = rest e
