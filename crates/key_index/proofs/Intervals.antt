-- The keys of a range are those that a walk from its first key gives, up to its end.
use Rattle.std.proofs.Common.{◌≡◌, ℕ, List, [], ◌∷◌, Bool, true, false, ◌&&◌, cond, filter, Result, Ok, Err, IfOk, refl, sym, ◌∙◌, ap, subst}
use Rattle.std.specs.List.{AllByRecursion}
use Rattle.std.specs.declared.cmp.Ordering.{Ordering}
use Rattle.std.specs.declared.cmp.Ordering.TheVariants.{Less, Equal, Greater}
use Rattle.std.specs.Ordering.{ordering_reverse, is_eq, is_gt, is_le, is_lt}
use Rattle.std.specs.Cmp.Lexicographic.{nat_list_cmp_total}
use Rattle.std.proofs.lemmas.Map.Lookups.{exact_bytes}
use Rattle.kv_model.specs.declared.version.Rev.{Rev}
use Rattle.kv_model.specs.declared.version.KeyRange.{KeyRange}
use Rattle.kv_model.specs.Keys.{key_cmp, key_le, key_lt, in_range, same_key}
use Rattle.key_pages.specs.Pairs.{from_key, below_key}
use Rattle.key_index.specs.Index.{Index, IsIndex, first_same, in_interval}
use Rattle.key_index.proofs.Keys.{eq-same}

filter-same : (t u : List ℕ → Bool) → ((k : List ℕ) → t k ≡ u k) → (i : Index) → filter (λ e. t e.0) i ≡ filter (λ e. u e.0) i
filter-same t u f [] = refl
filter-same t u f (e ∷ es) =
    ap (λ b. cond b (e ∷ filter (λ g. t g.0) es) (filter (λ g. t g.0) es)) (f e.0)
    ∙ ap (λ l. cond (u e.0) (e ∷ l) l) (filter-same t u f es)

filter-both : (t u : List ℕ → Bool) (i : Index) → filter (λ e. u e.0) (filter (λ e. t e.0) i) ≡ filter (λ e. t e.0 && u e.0) i
filter-both t u [] = refl
filter-both t u (e ∷ es) = by (t e.0) (filter-both t u es)
  where
    by : (b : Bool) → filter (λ g. u g.0) (filter (λ g. t g.0) es) ≡ filter (λ g. t g.0 && u g.0) es
        → filter (λ g. u g.0) (cond b (e ∷ filter (λ g. t g.0) es) (filter (λ g. t g.0) es))
        ≡ cond (b && u e.0) (e ∷ filter (λ g. t g.0 && u g.0) es) (filter (λ g. t g.0 && u g.0) es)
    by true rest = ap (λ l. cond (u e.0) (e ∷ l) l) rest
    by false rest = rest

pub interval-all : (r : KeyRange) (i : Index) → ((k : List ℕ) → true ≡ in_range r k) → i ≡ in_interval r i
interval-all r i f = kept i ∙ filter-same (λ k. true) (in_range r) f i
  where
    kept : (j : Index) → j ≡ filter (λ e. true) j
    kept [] = refl
    kept (e ∷ es) = ap (λ l. e ∷ l) (kept es)

pub interval-from : (r : KeyRange) (a : List ℕ) (i : Index) → ((k : List ℕ) → key_le a k ≡ in_range r k) → from_key a i ≡ in_interval r i
interval-from r a i f = filter-same (key_le a) (in_range r) f i

turned : (o p : Ordering) → o ≡ ordering_reverse p → is_gt o ≡ is_lt p
turned o Less e = ap is_gt e
turned o Equal e = ap is_gt e
turned o Greater e = ap is_gt e

pub interval-below : (r : KeyRange) (a b : List ℕ) (i : Index) → ((k : List ℕ) → (key_le a k && key_lt k b) ≡ in_range r k)
    → below_key b (from_key a i) ≡ in_interval r i
interval-below r a b i f =
    filter-both (key_le a) (λ k. is_gt (key_cmp b k)) i
    ∙ filter-same (λ k. key_le a k && is_gt (key_cmp b k)) (in_range r)
    (λ k. ap (λ t. key_le a k && t) (turned (key_cmp b k) (key_cmp k b) (nat_list_cmp_total.antisymm b k)) ∙ f k) i

none-same : (a : List ℕ) (es : Index) → AllByRecursion (λ f. key_cmp a f.0 ≡ Less) es → filter (λ e. is_eq (key_cmp a e.0)) es ≡ []
none-same a [] h = refl
none-same a (e ∷ es) h =
    ap (λ o. cond (is_eq o) (e ∷ filter (λ f. is_eq (key_cmp a f.0)) es) (filter (λ f. is_eq (key_cmp a f.0)) es)) h.0 ∙ none-same a es h.1

above-trans : (j k : List ℕ) (es : Index) → key_cmp j k ≡ Less → AllByRecursion (λ f. key_cmp k f.0 ≡ Less) es → AllByRecursion (λ f. key_cmp j f.0 ≡ Less) es
above-trans j k [] e h = tt
above-trans j k (f ∷ es) e h = (nat_list_cmp_total.trans j k f.0 e h.0, above-trans j k es e h.1)

one-same : (a : List ℕ) (i : Index) → IsIndex i → first_same a (from_key a i) ≡ filter (λ e. is_eq (key_cmp a e.0)) i
one-same a [] h = refl
one-same a (e ∷ es) h = by (key_cmp a e.0) refl (one-same a es h.2)
  where
    others : Index
    others = filter (λ f. is_eq (key_cmp a f.0)) es

    by : (o : Ordering) → key_cmp a e.0 ≡ o → first_same a (from_key a es) ≡ others
        → first_same a (cond (is_le o) (e ∷ from_key a es) (from_key a es)) ≡ cond (is_eq o) (e ∷ others) others
    by Less g rest =
        ap (λ o. cond (is_eq o) (e ∷ []) []) g ∙ sym (none-same a es (above-trans a e.0 es g h.1))
    by Equal g rest =
        ap (λ o. cond (is_eq o) (e ∷ []) []) g
        ∙ ap (λ l. e ∷ l) (sym (none-same a es (subst (λ j. AllByRecursion (λ (f : List ℕ × List Rev). key_cmp j f.0 ≡ Less) es) (sym (exact_bytes a e.0 g)) h.1)))
    by Greater g rest = rest

pub interval-one : (r : KeyRange) (a : List ℕ) (i : Index) → IsIndex i → ((k : List ℕ) → same_key k a ≡ in_range r k)
    → first_same a (from_key a i) ≡ in_interval r i
interval-one r a i h f = one-same a i h ∙ filter-same (λ k. is_eq (key_cmp a k)) (in_range r) (λ k. eq-same a k ∙ f k) i

-- what is listed, said otherwise
pub listed : {T E : Type 0} (f : T → Index) (i j : Index) → i ≡ j → (r : Result T E) → IfOk r (λ v. f v ≡ i) → IfOk r (λ v. f v ≡ j)
listed f i j e (Ok v) h = h ∙ e
listed f i j e (Err x) h = h
