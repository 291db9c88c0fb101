-- Pairs in pages: on which page a key stands, and what a change of that page makes of all.
use Rattle.std.proofs.Common.{◌≡◌, ℕ, zero, suc, ◌<◌, ◌≤◌, List, [], ◌∷◌, ◌++◌, length, get_or, set, take, drop, Bool, true, false, cond}
use Rattle.std.proofs.Common.{Option, None, Some, filter, refl, sym, ◌∙◌, ap, subst, arith, append_assoc}
use Rattle.std.specs.List.{AllByRecursion, slice_get, insert, remove}
use Rattle.std.specs.List.Sorted.{IsPartitionedBy}
use Rattle.std.specs.declared.cmp.Ordering.{Ordering}
use Rattle.std.specs.declared.cmp.Ordering.TheVariants.{Less, Equal, Greater}
use Rattle.std.specs.Ordering.{is_ge}
use Rattle.std.specs.Cmp.Lexicographic.{nat_list_cmp_total}
use Rattle.std.proofs.lemmas.Map.Lookups.{exact_bytes}
use Rattle.std.proofs.lemmas.List.{append-nil, take-append-drop}
use Rattle.std.proofs.lemmas.Grind.{flat_map-append}
use Rattle.std.proofs.lemmas.Option.{slice_get-get_or}
use Rattle.kv_model.specs.Keys.{key_cmp, key_le}
use Rattle.kv_model.specs.Lists.{is_empty}
use Rattle.store_laws.specs.Rising.{count_while}
use Rattle.store_laws.proofs.PlaceLaws.{each-append, each-filter}
use Rattle.store_laws.proofs.Rising.{each-at, count_while-le}
use Rattle.key_pages.specs.Pairs.{IsAscending, found, from_key}
use Rattle.key_pages.specs.Paged.{HavePairs, change_at, count_below, flat, freed, is_void, page_index, starts_at, starts_behind, starts_up_to}
use Rattle.key_pages.proofs.Pairs.{AreAbove, AreBelow, IsLocal, parted, above-trans, below-first, each-parts, found-front, found-back, from-front, from-back, turn-greater, turn-less}
use Rattle.key_pages.proofs.Places.{from-place}

no-page-there : false ≡ true → ⊥
no-page-there e = cc

is-not-less : (o : Ordering) → is_ge o ≡ true → o ≡ Less → ⊥
is-not-less Less e f = cc
is-not-less Equal e f = cc
is-not-less Greater e f = cc

is-less : (o : Ordering) → is_ge o ≡ false → o ≡ Less
is-less Less e = refl
is-less Equal e = cc
is-less Greater e = cc

module _ {X : Type 0} where
  -- ---- pages as lists

  pub set-change : (f : List (List ℕ × X) → List (List ℕ × X)) (ps : List (List (List ℕ × X))) (i : ℕ) (d : List (List ℕ × X)) → i < length ps
      → set ps i (f (get_or ps i d)) ≡ change_at f i ps
  set-change f [] i d l = absurd (omega arith)
  set-change f (p ∷ ps) zero d l = refl
  set-change f (p ∷ ps) (suc i) d l = ap (λ qs. p ∷ qs) (set-change f ps i d (omega arith))

  pub length-change : (f : List (List ℕ × X) → List (List ℕ × X)) (i : ℕ) (ps : List (List (List ℕ × X))) → length (change_at f i ps) ≡ length ps
  length-change f i [] = refl
  length-change f zero (p ∷ ps) = refl
  length-change f (suc i) (p ∷ ps) = ap suc (length-change f i ps)

  pub held-change : (f : List (List ℕ × X) → List (List ℕ × X)) → ((p : List (List ℕ × X)) → 0 < length p → 0 < length (f p))
      → (i : ℕ) (ps : List (List (List ℕ × X))) → HavePairs ps → HavePairs (change_at f i ps)
  held-change f g i [] h = tt
  held-change f g zero (p ∷ ps) h = (g p h.0, h.1)
  held-change f g (suc i) (p ∷ ps) h = (h.0, held-change f g i ps h.1)

  pub index-bound : (k : List ℕ) (ps : List (List (List ℕ × X))) → 0 < length ps → page_index k ps < length ps
  index-bound k [] l = absurd (omega arith)
  index-bound k (p ∷ ps) l = let m = count_while-le (starts_up_to k) ps in omega arith

  -- an index that is not inside means that there is no page
  pub no-page : (k : List ℕ) (ps : List (List (List ℕ × X))) → length ps ≤ page_index k ps → ps ≡ []
  no-page k [] l = refl
  no-page k (p ∷ ps) l = let m = index-bound k (p ∷ ps) (omega arith) in absurd (omega arith)

  pub ascending-at : (i : ℕ) (ps : List (List (List ℕ × X))) (d : List (List ℕ × X)) → IsAscending (flat ps) → i < length ps
      → IsAscending (get_or ps i d)
  ascending-at i [] d r l = absurd (omega arith)
  ascending-at zero (p ∷ ps) d r l = (parted p (flat ps) r).front
  ascending-at (suc i) (p ∷ ps) d r l = ascending-at i ps d (parted p (flat ps) r).back (omega arith)

  page-each : (P : List ℕ × X → Type 0) (ps : List (List (List ℕ × X))) (j : ℕ) (d : List (List ℕ × X)) → AllByRecursion P (flat ps) → j < length ps
      → AllByRecursion P (get_or ps j d)
  page-each P [] j d h l = absurd (omega arith)
  page-each P (q ∷ ps) zero d h l = (each-parts P q (flat ps) h).0
  page-each P (q ∷ ps) (suc j) d h l = page-each P ps j d (each-parts P q (flat ps) h).1 (omega arith)

  -- ---- pages that do not start above a key stand before the others

  starts-through : (k : List ℕ) (x : List ℕ × X) (q : List (List ℕ × X)) → 0 < length q → AllByRecursion (λ (y : List ℕ × X). key_cmp x.0 y.0 ≡ Less) q
      → starts_up_to k q ≡ true → is_ge (key_cmp k x.0) ≡ true
  starts-through k x [] l h e = absurd (omega arith)
  starts-through k x (y ∷ ys) l h e = by (key_cmp k y.0) refl e
    where
      by : (o : Ordering) → key_cmp k y.0 ≡ o → is_ge o ≡ true → is_ge (key_cmp k x.0) ≡ true
      by Less g e = cc
      by Equal g e = ap is_ge (ap (λ j. key_cmp j x.0) (exact_bytes k y.0 g) ∙ turn-less x.0 y.0 h.0)
      by Greater g e = ap is_ge (turn-less x.0 k (nat_list_cmp_total.trans x.0 y.0 k h.0 (turn-greater k y.0 g)))

  pub starts-partitioned : (k : List ℕ) (ps : List (List (List ℕ × X))) → IsAscending (flat ps) → HavePairs ps → IsPartitionedBy (starts_up_to k) ps
  starts-partitioned k [] r h i j d l m e = absurd (omega arith)
  starts-partitioned k (q ∷ ps) r h zero zero d l m e = e
  starts-partitioned k ([] ∷ ps) r h zero (suc j) d l m e = refl
  starts-partitioned k ((x ∷ xs) ∷ ps) r h zero (suc j) d l m e =
      let inner : j < length ps = omega arith in
      starts-through k x (get_or ps j d) (each-at (λ (w : List (List ℕ × X)). 0 < length w) ps j d h.1 inner)
      (page-each (λ (y : List ℕ × X). key_cmp x.0 y.0 ≡ Less) ps j d (parted (x ∷ xs) (flat ps) r).apart.0 inner) e
  starts-partitioned k (q ∷ ps) r h (suc i) zero d l m e = absurd (omega arith)
  starts-partitioned k (q ∷ ps) r h (suc i) (suc j) d l m e =
      starts-partitioned k ps (parted q (flat ps) r).back h.1 i j d (omega arith) (omega arith) e

  starts-some : (k : List ℕ) (ps : List (List (List ℕ × X))) (n : ℕ) (d : List (List ℕ × X)) → starts_at k n ps ≡ true
      → (n < length ps) × (starts_up_to k (get_or ps n d) ≡ true)
  starts-some k [] n d a = absurd (no-page-there a)
  starts-some k (p ∷ ps) zero d a = (omega arith, a)
  starts-some k (p ∷ ps) (suc n) d a = let rest = starts-some k ps n d a in (let inner = rest.0 in omega arith, rest.1)

  -- a page before one that does not start above the key does not, either
  first-starts : (k : List ℕ) (q : List (List ℕ × X)) (ps : List (List (List ℕ × X))) → IsAscending (flat (q ∷ ps)) → HavePairs (q ∷ ps)
      → (n : ℕ) → starts_at k n ps ≡ true → starts_up_to k q ≡ true
  first-starts k q ps r h n a =
      let some = starts-some k ps n q a in
      let inner = some.0 in
      starts-partitioned k (q ∷ ps) r h zero (suc n) q (omega arith) (omega arith) some.1

  -- where the page before an index does not start above the key, and the one there does, so many do not
  pub starts-count : (k : List ℕ) (ps : List (List (List ℕ × X))) → IsAscending (flat ps) → HavePairs ps → (n : ℕ)
      → starts_behind k n ps ≡ true → starts_at k n ps ≡ false → n ≡ count_while (starts_up_to k) ps
  starts-count k [] r h zero a b = refl
  starts-count k [] r h (suc n) a b = cc
  starts-count k (q ∷ ps) r h zero a b = sym (ap (λ t. cond t (suc (count_while (starts_up_to k) ps)) zero) b)
  starts-count k (q ∷ ps) r h (suc zero) a b =
      ap suc (starts-count k ps (parted q (flat ps) r).back h.1 zero refl b)
      ∙ sym (ap (λ t. cond t (suc (count_while (starts_up_to k) ps)) zero) a)
  starts-count k (q ∷ ps) r h (suc (suc n)) a b =
      ap suc (starts-count k ps (parted q (flat ps) r).back h.1 (suc n) a b)
      ∙ sym (ap (λ t. cond t (suc (count_while (starts_up_to k) ps)) zero) (first-starts k q ps r h n a))

  pub tail-ascending : (ps : List (List (List ℕ × X))) → IsAscending (flat ps) → IsAscending (flat (drop 1 ps))
  tail-ascending [] r = tt
  tail-ascending (p ∷ ps) r = (parted p (flat ps) r).back

  pub tail-held : (ps : List (List (List ℕ × X))) → HavePairs ps → HavePairs (drop 1 ps)
  tail-held [] h = tt
  tail-held (p ∷ ps) h = h.1

  -- ---- what a change of that page makes of all

  -- the page before one that does not start above the key is below it
  page-below : (k : List ℕ) (p q : List (List ℕ × X)) (ps : List (List (List ℕ × X))) → 0 < length q → IsAscending (flat (p ∷ q ∷ ps))
      → starts_up_to k q ≡ true → AreBelow k p
  page-below k p [] ps l r e = absurd (omega arith)
  page-below k p (y ∷ ys) ps l r e =
      below-first k y (ys ++ flat ps) p (is-not-less (key_cmp k y.0) e) (parted p ((y ∷ ys) ++ flat ps) r).apart

  -- and from one on that does each page is above it
  pages-above : (k : List ℕ) (q : List (List ℕ × X)) (ps : List (List (List ℕ × X))) → IsAscending (flat (q ∷ ps)) → starts_up_to k q ≡ false
      → AreAbove k (flat (q ∷ ps))
  pages-above k [] ps r e = cc
  pages-above k (y ∷ ys) ps r e =
      let h : key_cmp k y.0 ≡ Less = is-less (key_cmp k y.0) e in
      (h, above-trans k y.0 (ys ++ flat ps) h r.0)

  pub change-local : (k : List ℕ) (f : List (List ℕ × X) → List (List ℕ × X)) → IsLocal k f → (ps : List (List (List ℕ × X)))
      → IsAscending (flat ps) → HavePairs ps → 0 < length ps → flat (change_at f (page_index k ps) ps) ≡ f (flat ps)
  change-local k f a [] r h l = absurd (omega arith)
  change-local k f a (p ∷ []) r h l = append-nil (f p) ∙ ap f (sym (append-nil p))
  change-local k f a (p ∷ q ∷ ps) r h l = by (starts_up_to k q) refl (change-local k f a (q ∷ ps) (parted p (flat (q ∷ ps)) r).back h.1 (omega arith))
    where
      by : (b : Bool) → starts_up_to k q ≡ b → flat (change_at f (page_index k (q ∷ ps)) (q ∷ ps)) ≡ f (flat (q ∷ ps))
          → flat (change_at f (cond b (suc (page_index k (q ∷ ps))) zero) (p ∷ q ∷ ps)) ≡ f (flat (p ∷ q ∷ ps))
      by true e rest = ap (λ zs. p ++ zs) rest ∙ sym (a.front p (flat (q ∷ ps)) (page-below k p q ps h.1.0 r e))
      by false e rest = sym (a.back p (flat (q ∷ ps)) (pages-above k q ps (parted p (flat (q ∷ ps)) r).back e))

  pub found-page : (k : List ℕ) (ps : List (List (List ℕ × X))) (d : List (List ℕ × X))
      → IsAscending (flat ps) → HavePairs ps → 0 < length ps → found k (flat ps) ≡ found k (get_or ps (page_index k ps) d)
  found-page k [] d r h l = absurd (omega arith)
  found-page k (p ∷ []) d r h l = ap (found k) (append-nil p)
  found-page k (p ∷ q ∷ ps) d r h l = by (starts_up_to k q) refl (found-page k (q ∷ ps) d (parted p (flat (q ∷ ps)) r).back h.1 (omega arith))
    where
      by : (b : Bool) → starts_up_to k q ≡ b → found k (flat (q ∷ ps)) ≡ found k (get_or (q ∷ ps) (page_index k (q ∷ ps)) d)
          → found k (flat (p ∷ q ∷ ps)) ≡ found k (get_or (p ∷ q ∷ ps) (cond b (suc (page_index k (q ∷ ps))) zero) d)
      by true e rest = found-front k p (flat (q ∷ ps)) (page-below k p q ps h.1.0 r e) ∙ rest
      by false e rest = found-back k p (flat (q ∷ ps)) (pages-above k q ps (parted p (flat (q ∷ ps)) r).back e)

  abbrev pub found_in : List ℕ → Option (List (List ℕ × X)) → Option X
  found_in k None = None
  found_in k (Some p) = found k p

  pub found-at : (k : List ℕ) (ps : List (List (List ℕ × X))) → IsAscending (flat ps) → HavePairs ps
      → found_in k (slice_get ps (page_index k ps)) ≡ found k (flat ps)
  found-at k [] r h = refl
  found-at k (p ∷ ps) r h =
      ap (found_in k) (slice_get-get_or (p ∷ ps) (page_index k (p ∷ ps)) p (index-bound k (p ∷ ps) (omega arith)))
      ∙ sym (found-page k (p ∷ ps) p r h (omega arith))

  pub ascending-some : (ps : List (List (List ℕ × X))) (i : ℕ) (p : List (List ℕ × X)) → IsAscending (flat ps) → slice_get ps i ≡ Some p
      → IsAscending p
  ascending-some [] i p r e = cc
  ascending-some (q ∷ ps) zero p r e = let same : q ≡ p = cc in subst IsAscending same (parted q (flat ps) r).front
  ascending-some (q ∷ ps) (suc i) p r e = ascending-some ps i p (parted q (flat ps) r).back e

  -- ---- the keys from one on

  abbrev pub left_from : List ℕ → List (List (List ℕ × X)) → List (List ℕ × X)
  left_from k [] = []
  left_from k (p ∷ ps) = drop (count_below k p) p ++ flat ps

  pub from-page : (k : List ℕ) (ps : List (List (List ℕ × X))) → IsAscending (flat ps) → HavePairs ps
      → left_from k (drop (page_index k ps) ps) ≡ from_key k (flat ps)
  from-page k [] r h = refl
  from-page k (p ∷ []) r h = ap (λ zs. zs ++ []) (from-place k p (parted p [] r).front) ∙ sym (from-back k p [] tt)
  from-page k (p ∷ q ∷ ps) r h = by (starts_up_to k q) refl (from-page k (q ∷ ps) (parted p (flat (q ∷ ps)) r).back h.1)
    where
      by : (b : Bool) → starts_up_to k q ≡ b → left_from k (drop (page_index k (q ∷ ps)) (q ∷ ps)) ≡ from_key k (flat (q ∷ ps))
          → left_from k (drop (cond b (suc (page_index k (q ∷ ps))) zero) (p ∷ q ∷ ps)) ≡ from_key k (flat (p ∷ q ∷ ps))
      by true e rest = rest ∙ sym (from-front k p (flat (q ∷ ps)) (page-below k p q ps h.1.0 r e))
      by false e rest =
          ap (λ zs. zs ++ flat (q ∷ ps)) (from-place k p (parted p (flat (q ∷ ps)) r).front)
          ∙ sym (from-back k p (flat (q ∷ ps)) (pages-above k q ps (parted p (flat (q ∷ ps)) r).back e))

  -- ---- a page that is split

  pub flat-split : (n i : ℕ) (ps : List (List (List ℕ × X))) (d : List (List ℕ × X)) → i < length ps
      → flat (insert (set ps i (take n (get_or ps i d))) (suc i) (drop n (get_or ps i d))) ≡ flat ps
  flat-split n i [] d l = absurd (omega arith)
  flat-split n zero (p ∷ ps) d l =
      sym (append_assoc (take n p) (drop n p) (flat ps)) ∙ ap (λ zs. zs ++ flat ps) (take-append-drop n p)
  flat-split n (suc i) (p ∷ ps) d l = ap (λ zs. p ++ zs) (flat-split n i ps d (omega arith))

  pub held-split : (i : ℕ) (ps : List (List (List ℕ × X))) (a b : List (List ℕ × X)) → i < length ps → 0 < length a → 0 < length b → HavePairs ps
      → HavePairs (insert (set ps i a) (suc i) b)
  held-split i [] a b l m n h = absurd (omega arith)
  held-split zero (p ∷ ps) a b l m n h = (m, (n, h.1))
  held-split (suc i) (p ∷ ps) a b l m n h = (h.0, held-split i ps a b (omega arith) m n h.1)

  pub held-set : (i : ℕ) (ps : List (List (List ℕ × X))) (a : List (List ℕ × X)) → 0 < length a → HavePairs ps → HavePairs (set ps i a)
  held-set i [] a m h = tt
  held-set zero (p ∷ ps) a m h = (m, h.1)
  held-set (suc i) (p ∷ ps) a m h = (h.0, held-set i ps a m h.1)

  -- ---- a page behind all others

  pub flat-push : (ps : List (List (List ℕ × X))) (p : List (List ℕ × X)) → flat (ps ++ p ∷ []) ≡ flat ps ++ p
  flat-push ps p = flat_map-append (λ q. q) ps (p ∷ []) ∙ ap (λ zs. flat ps ++ zs) (append-nil p)

  pub held-push : (ps : List (List (List ℕ × X))) (p : List (List ℕ × X)) → HavePairs ps → 0 < length p → HavePairs (ps ++ p ∷ [])
  held-push ps p h l = each-append (λ (q : List (List ℕ × X)). 0 < length q) ps (p ∷ []) h (l, tt)

  -- ---- a page without pairs goes

  empty-nil : (p : List (List ℕ × X)) → is_empty p ≡ true → p ≡ []
  empty-nil [] e = refl
  empty-nil (e ∷ es) f = cc

  pub flat-freed : (i : ℕ) (ps : List (List (List ℕ × X))) → flat (freed i ps) ≡ flat ps
  flat-freed i [] = refl
  flat-freed zero (p ∷ ps) = by (is_empty p) refl
    where
      by : (b : Bool) → is_empty p ≡ b → flat (cond b ps (p ∷ ps)) ≡ p ++ flat ps
      by true e = sym (ap (λ zs. zs ++ flat ps) (empty-nil p e))
      by false e = refl
  flat-freed (suc i) (p ∷ ps) = by (is_void (slice_get ps i)) (flat-freed i ps)
    where
      by : (b : Bool) → flat (cond b (remove ps i) ps) ≡ flat ps → flat (cond b (p ∷ remove ps i) (p ∷ ps)) ≡ p ++ flat ps
      by true e = ap (λ zs. p ++ zs) e
      by false e = refl

  not-empty : (p : List (List ℕ × X)) → is_empty p ≡ false → 0 < length p
  not-empty [] e = cc
  not-empty (e ∷ es) f = omega arith

  -- each page but one has a pair, and that one goes if it has none
  pub held-freed : (f : List (List ℕ × X) → List (List ℕ × X)) (i : ℕ) (ps : List (List (List ℕ × X))) → HavePairs ps
      → HavePairs (freed i (change_at f i ps))
  held-freed f i [] h = h
  held-freed f zero (p ∷ ps) h = by (is_empty (f p)) refl
    where
      by : (b : Bool) → is_empty (f p) ≡ b → HavePairs (cond b ps (f p ∷ ps))
      by true e = h.1
      by false e = (not-empty (f p) e, h.1)
  held-freed f (suc i) (p ∷ ps) h = by (is_void (slice_get (change_at f i ps) i)) (held-freed f i ps h.1)
    where
      by : (b : Bool) → HavePairs (cond b (remove (change_at f i ps) i) (change_at f i ps))
          → HavePairs (cond b (p ∷ remove (change_at f i ps) i) (p ∷ change_at f i ps))
      by true e = (h.0, e)
      by false e = (h.0, e)

  -- ---- a walk from a key on

  ascending-filter : (t : List ℕ × X → Bool) (es : List (List ℕ × X)) → IsAscending es → IsAscending (filter t es)
  ascending-filter t [] r = tt
  ascending-filter t (e ∷ es) r = by (t e) (ascending-filter t es r.1)
    where
      by : (b : Bool) → IsAscending (filter t es) → IsAscending (cond b (e ∷ filter t es) (filter t es))
      by true rest = (each-filter (λ (f : List ℕ × X). key_cmp e.0 f.0 ≡ Less) t es r.0, rest)
      by false rest = rest

  ascending-drop : (i : ℕ) (ps : List (List (List ℕ × X))) → IsAscending (flat ps) → IsAscending (flat (drop i ps))
  ascending-drop zero ps r = r
  ascending-drop (suc i) [] r = tt
  ascending-drop (suc i) (p ∷ ps) r = ascending-drop i ps (parted p (flat ps) r).back

  pub record WalksFrom (k : List ℕ) (ps : List (List (List ℕ × X))) (p : List (List ℕ × X)) (qs : List (List (List ℕ × X))) : Type 0 where
    pub page : IsAscending p
    pub value : from_key k p ++ flat qs ≡ from_key k (flat ps)
    pub ascending : IsAscending (from_key k p ++ flat qs)

  pub walks-from : (k : List ℕ) (ps : List (List (List ℕ × X))) (p : List (List ℕ × X)) (qs : List (List (List ℕ × X)))
      → IsAscending (flat ps) → HavePairs ps → drop (page_index k ps) ps ≡ p ∷ qs → WalksFrom k ps p qs
  walks-from k ps p qs r h e =
      let page : IsAscending p = (parted p (flat qs) (subst (λ rs. IsAscending (flat rs)) e (ascending-drop (page_index k ps) ps r))).front in
      let value : from_key k p ++ flat qs ≡ from_key k (flat ps) =
      ap (λ zs. zs ++ flat qs) (sym (from-place k p page)) ∙ ap (left_from k) (sym e) ∙ from-page k ps r h in
      record {
        page = page;
        value = value;
        ascending = subst IsAscending (sym value) (ascending-filter (λ e. key_le k e.0) (flat ps) r);
      }
