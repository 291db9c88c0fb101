-- Where in ascending pairs a key stands, or has its place.
use Rattle.std.proofs.Common.{◌≡◌, ℕ, zero, suc, ◌<◌, List, [], ◌∷◌, length, get_or, set, drop, Bool, true, false, not, cond}
use Rattle.std.proofs.Common.{Option, None, Some, is_some, Result, Ok, Err, OnOk, refl, sym, ◌∙◌, ap, subst, arith}
use Rattle.std.specs.List.{AllByRecursion, slice_get, insert, remove}
use Rattle.std.specs.List.Sorted.{IsPartitionedBy}
use Rattle.std.specs.declared.cmp.Ordering.{Ordering}
use Rattle.std.specs.declared.cmp.Ordering.TheVariants.{Less, Equal, Greater}
use Rattle.std.specs.Ordering.{is_eq, is_gt, is_le, match_ordering}
use Rattle.std.specs.Cmp.Lexicographic.{nat_list_cmp_total}
use Rattle.std.proofs.lemmas.Map.Lookups.{exact_bytes}
use Rattle.kv_model.specs.Keys.{key_cmp}
use Rattle.store_laws.proofs.Rising.{each-at, newest-cons}
use Rattle.key_pages.specs.Pairs.{IsAscending, cut_by, cut_in, found, inserted, put_by, put_in, told_by, with_value, without, from_key}
use Rattle.key_pages.specs.Paged.{is_below, is_below_at, is_place_behind, is_below_or_none, count_below, cut_at, is_pair_of, is_there, ends_below, value_if}
use Rattle.key_pages.proofs.Pairs.{AreBelow, AreAbove, above-trans, found-above, from-above, turn-greater, turn-less, greater}

no-pair : false ≡ true → ⊥
no-pair e = cc

pub not-true : (b : Bool) → not b ≡ true → b ≡ false
not-true true h = cc
not-true false h = refl

module _ {X : Type 0} where
  length-set : (x : X) (i : ℕ) (es : List X) → length (set es i x) ≡ length es
  length-set x i [] = refl
  length-set x zero (e ∷ es) = refl
  length-set x (suc i) (e ∷ es) = ap suc (length-set x i es)

  -- a value that changes leaves as many
  pub inside-set : (i : ℕ) (x : X → X) (es zs : List X) → i < length es → ((d : X) → zs ≡ set es i (x d)) → i < length zs
  inside-set i x [] zs l h = absurd (omega arith)
  inside-set i x (e ∷ es) zs l h = subst (λ n. i < n) (sym (ap length (h e) ∙ length-set (x e) i (e ∷ es))) l

module _ {X : Type 0} (k : List ℕ) where
  below-through : (e f : List ℕ × X) → key_cmp e.0 f.0 ≡ Less → is_below k f ≡ true → is_below k e ≡ true
  below-through e f h g = ap is_gt (turn-less e.0 k (nat_list_cmp_total.trans e.0 f.0 k h (turn-greater k f.0 (greater (key_cmp k f.0) g))))

  -- those below the key stand before the others
  pub below-partitioned : (es : List (List ℕ × X)) → IsAscending es → IsPartitionedBy (is_below k) es
  below-partitioned [] r i j d l m h = absurd (omega arith)
  below-partitioned (e ∷ es) r zero zero d l m h = h
  below-partitioned (e ∷ es) r zero (suc j) d l m h =
      below-through e (get_or es j d) (each-at (λ (f : List ℕ × X). key_cmp e.0 f.0 ≡ Less) es j d r.0 (omega arith)) h
  below-partitioned (e ∷ es) r (suc i) zero d l m h = absurd (omega arith)
  below-partitioned (e ∷ es) r (suc i) (suc j) d l m h = below-partitioned es r.1 i j d (omega arith) (omega arith) h

  -- a key that has one below it before an index is above the first, too
  below-first : (e : List ℕ × X) (es : List (List ℕ × X)) → AllByRecursion (λ f. key_cmp e.0 f.0 ≡ Less) es → (n : ℕ)
      → is_below_at k n es ≡ true → is_below k e ≡ true
  below-first e [] a n h = cc
  below-first e (f ∷ es) a zero h = below-through e f a.0 h
  below-first e (f ∷ es) a (suc n) h = below-first e es a.1 n h

  -- where the key before is below it, and the one there is not, there is its place
  pub place : (es : List (List ℕ × X)) → IsAscending es → (n : ℕ) → is_place_behind k n es ≡ true → is_below_at k n es ≡ false
      → n ≡ count_below k es
  place [] r zero a b = refl
  place [] r (suc n) a b = cc
  place (e ∷ es) r zero a b = sym (ap (λ t. cond t (suc (count_below k es)) zero) b)
  place (e ∷ es) r (suc zero) a b = ap suc (place es r.1 zero refl b) ∙ sym (ap (λ t. cond t (suc (count_below k es)) zero) a)
  place (e ∷ es) r (suc (suc n)) a b =
      ap suc (place es r.1 (suc n) a b) ∙ sym (ap (λ t. cond t (suc (count_below k es)) zero) (below-first e es r.0 n a))

  -- a key that stands behind another is above it
  there-first : (e : List ℕ × X) (es : List (List ℕ × X)) → AllByRecursion (λ f. key_cmp e.0 f.0 ≡ Less) es → (n : ℕ)
      → is_there k n es ≡ true → is_below k e ≡ true
  there-first e [] a n h = cc
  there-first e (f ∷ es) a zero h =
      ap is_gt (turn-less e.0 k (subst (λ j. key_cmp e.0 j ≡ Less) (sym (same (key_cmp k f.0) refl h)) a.0))
    where
      same : (o : Ordering) → key_cmp k f.0 ≡ o → is_eq o ≡ true → k ≡ f.0
      same Less g h = cc
      same Equal g h = exact_bytes k f.0 g
      same Greater g h = cc
  there-first e (f ∷ es) a (suc n) h = there-first e es a.1 n h

  -- where the key stands is its place
  pub there-place : (es : List (List ℕ × X)) → IsAscending es → (n : ℕ) → is_there k n es ≡ true → n ≡ count_below k es
  there-place [] r n h = cc
  there-place (e ∷ es) r zero h = by (key_cmp k e.0) h
    where
      by : (o : Ordering) → is_eq o ≡ true → zero ≡ cond (is_gt o) (suc (count_below k es)) zero
      by Less g = refl
      by Equal g = refl
      by Greater g = cc
  there-place (e ∷ es) r (suc n) h =
      ap suc (there-place es r.1 n h) ∙ sym (ap (λ t. cond t (suc (count_below k es)) zero) (there-first e es r.0 n h))

  pub found-place : (es : List (List ℕ × X)) → IsAscending es → found k es ≡ value_if k (slice_get es (count_below k es))
  found-place [] r = refl
  found-place (e ∷ es) r = by (key_cmp k e.0) refl (found-place es r.1)
    where
      by : (o : Ordering) → key_cmp k e.0 ≡ o → found k es ≡ value_if k (slice_get es (count_below k es))
          → cond (is_eq o) (Some e.1) (found k es) ≡ value_if k (slice_get (e ∷ es) (cond (is_gt o) (suc (count_below k es)) zero))
      by Less h rest = found-above k es (above-trans k e.0 es h r.0) ∙ sym (ap (λ p. cond (is_eq p) (Some e.1) None) h)
      by Equal h rest = sym (ap (λ p. cond (is_eq p) (Some e.1) None) h)
      by Greater h rest = rest

  pub there : (es : List (List ℕ × X)) → IsAscending es → is_there k (count_below k es) es ≡ is_some (found k es)
  there es r = by (slice_get es (count_below k es)) ∙ ap is_some (sym (found-place es r))
    where
      test : (b : Bool) (v : X) → b ≡ is_some (cond b (Some v) None)
      test true v = refl
      test false v = refl

      by : (o : Option (List ℕ × X)) → is_pair_of k o ≡ is_some (value_if k o)
      by None = refl
      by (Some e) = test (is_eq (key_cmp k e.0)) e.1

  -- the key there is this one
  pub there-key : (i : ℕ) (es : List (List ℕ × X)) (d : List ℕ × X) → is_there k i es ≡ true → (get_or es i d).0 ≡ k
  there-key i [] d h = cc
  there-key zero (e ∷ es) d h = by (key_cmp k e.0) refl h
    where
      by : (o : Ordering) → key_cmp k e.0 ≡ o → is_eq o ≡ true → e.0 ≡ k
      by Less g t = cc
      by Equal g t = sym (exact_bytes k e.0 g)
      by Greater g t = cc
  there-key (suc i) (e ∷ es) d h = there-key i es d h

  pub inside : (i : ℕ) (es : List (List ℕ × X)) → is_there k i es ≡ true → i < length es
  inside i [] h = cc
  inside zero (e ∷ es) h = omega arith
  inside (suc i) (e ∷ es) h = let rest = inside i es h in omega arith

  pub set-place : (v : X) (d : List ℕ × X) (es : List (List ℕ × X)) → is_there k (count_below k es) es ≡ true
      → set es (count_below k es) ((get_or es (count_below k es) d).0, v) ≡ with_value k v es
  set-place v d [] h = cc
  set-place v d (e ∷ es) h = by (key_cmp k e.0) refl h (set-place v d es)
    where
      by : (o : Ordering) → key_cmp k e.0 ≡ o
          → is_there k (cond (is_gt o) (suc (count_below k es)) zero) (e ∷ es) ≡ true
          → (is_there k (count_below k es) es ≡ true → set es (count_below k es) ((get_or es (count_below k es) d).0, v) ≡ with_value k v es)
          → set (e ∷ es) (cond (is_gt o) (suc (count_below k es)) zero) ((get_or (e ∷ es) (cond (is_gt o) (suc (count_below k es)) zero) d).0, v)
          ≡ cond (is_eq o) ((e.0, v) ∷ es) (e ∷ with_value k v es)
      by Less g h rest = let no : false ≡ true = sym (ap is_eq g) ∙ h in cc
      by Equal g h rest = refl
      by Greater g h rest = ap (λ zs. e ∷ zs) (rest h)

  pub value-place : (d : List ℕ × X) (es : List (List ℕ × X)) → IsAscending es → is_there k (count_below k es) es ≡ true
      → found k es ≡ Some (get_or es (count_below k es) d).1
  value-place d [] r h = cc
  value-place d (e ∷ es) r h = by (key_cmp k e.0) refl h (value-place d es r.1)
    where
      by : (o : Ordering) → key_cmp k e.0 ≡ o
          → is_there k (cond (is_gt o) (suc (count_below k es)) zero) (e ∷ es) ≡ true
          → (is_there k (count_below k es) es ≡ true → found k es ≡ Some (get_or es (count_below k es) d).1)
          → cond (is_eq o) (Some e.1) (found k es) ≡ Some (get_or (e ∷ es) (cond (is_gt o) (suc (count_below k es)) zero) d).1
      by Less g h rest = let no : false ≡ true = sym (ap is_eq g) ∙ h in cc
      by Equal g h rest = refl
      by Greater g h rest = rest h

  pub remove-place : (es : List (List ℕ × X)) → is_there k (count_below k es) es ≡ true → remove es (count_below k es) ≡ without k es
  remove-place [] h = cc
  remove-place (e ∷ es) h = by (key_cmp k e.0) refl h (remove-place es)
    where
      by : (o : Ordering) → key_cmp k e.0 ≡ o
          → is_there k (cond (is_gt o) (suc (count_below k es)) zero) (e ∷ es) ≡ true
          → (is_there k (count_below k es) es ≡ true → remove es (count_below k es) ≡ without k es)
          → remove (e ∷ es) (cond (is_gt o) (suc (count_below k es)) zero) ≡ cond (is_eq o) es (e ∷ without k es)
      by Less g h rest = let no : false ≡ true = sym (ap is_eq g) ∙ h in cc
      by Equal g h rest = refl
      by Greater g h rest = ap (λ zs. e ∷ zs) (rest h)

  -- a pair, where there is one
  some-pair : (i : ℕ) (es : List (List ℕ × X)) → is_there k i es ≡ true → List ℕ × X
  some-pair i [] h = absurd (no-pair h)
  some-pair i (e ∷ es) h = e

  none-of : (o : Option X) → is_some o ≡ false → o ≡ None
  none-of None h = refl
  none-of (Some v) h = cc

  pub absent : (es : List (List ℕ × X)) → IsAscending es → is_there k (count_below k es) es ≡ false → found k es ≡ None
  absent es r h = none-of (found k es) (sym (there es r) ∙ h)

  insert-place : (v : X) (es : List (List ℕ × X)) → is_there k (count_below k es) es ≡ false → insert es (count_below k es) (k, v) ≡ inserted k v es
  insert-place v [] h = refl
  insert-place v (e ∷ es) h = by (key_cmp k e.0) refl h (insert-place v es)
    where
      by : (o : Ordering) → key_cmp k e.0 ≡ o
          → is_there k (cond (is_gt o) (suc (count_below k es)) zero) (e ∷ es) ≡ false
          → (is_there k (count_below k es) es ≡ false → insert es (count_below k es) (k, v) ≡ inserted k v es)
          → insert (e ∷ es) (cond (is_gt o) (suc (count_below k es)) zero) (k, v)
          ≡ match_ordering o ((k, v) ∷ e ∷ es) ((e.0, v) ∷ es) (e ∷ inserted k v es)
      by Less g h rest = refl
      by Equal g h rest = let no : true ≡ false = sym (ap is_eq g) ∙ h in cc
      by Greater g h rest = ap (λ zs. e ∷ zs) (rest h)

  pub from-place : (es : List (List ℕ × X)) → IsAscending es → drop (count_below k es) es ≡ from_key k es
  from-place [] r = refl
  from-place (e ∷ es) r = by (key_cmp k e.0) refl (from-place es r.1) (λ h. from-above k es (above-trans k e.0 es h r.0))
      (λ h. from-above k es (subst (λ j. AreAbove j es) (sym h) r.0))
    where
      by : (o : Ordering) → key_cmp k e.0 ≡ o → drop (count_below k es) es ≡ from_key k es
          → (key_cmp k e.0 ≡ Less → from_key k es ≡ es) → (k ≡ e.0 → from_key k es ≡ es)
          → drop (cond (is_gt o) (suc (count_below k es)) zero) (e ∷ es) ≡ cond (is_le o) (e ∷ from_key k es) (from_key k es)
      by Less h rest above same = ap (λ zs. e ∷ zs) (sym (above h))
      by Equal h rest above same = ap (λ zs. e ∷ zs) (sym (same (exact_bytes k e.0 h)))
      by Greater h rest above same = rest

  -- where the last key is below it each one is
  pub all-below : (es : List (List ℕ × X)) → IsAscending es → ends_below k es ≡ true → AreBelow k es
  all-below [] r h = tt
  all-below (e ∷ []) r h = (greater (key_cmp k e.0) h, tt)
  all-below (e ∷ f ∷ fs) r h =
      let rest = all-below (f ∷ fs) r.1 (ap (is_below_or_none k) (newest-cons e f fs) ∙ h) in
      (greater (key_cmp k e.0) (below-through e f r.0.0 (ap is_gt rest.0)), rest)

  -- ---- the same at an index that is that place

  module _ (es : List (List ℕ × X)) (r : IsAscending es) (i : ℕ) (e : i ≡ count_below k es) where
    pub place-inside : is_there k i es ≡ true → i < length es
    place-inside h = inside i es h

    pub place-value : (d : List ℕ × X) → is_there k i es ≡ true → found k es ≡ Some (get_or es i d).1
    place-value d h =
        subst (λ j. is_there k j es ≡ true → found k es ≡ Some (get_or es j d).1) (sym e) (value-place d es r) h

    place-set : (v : X) (d : List ℕ × X) → is_there k i es ≡ true → set es i ((get_or es i d).0, v) ≡ with_value k v es
    place-set v d h =
        subst (λ j. is_there k j es ≡ true → set es j ((get_or es j d).0, v) ≡ with_value k v es) (sym e) (set-place v d es) h

    place-remove : is_there k i es ≡ true → remove es i ≡ without k es
    place-remove h = subst (λ j. is_there k j es ≡ true → remove es j ≡ without k es) (sym e) (remove-place es) h

    pub place-absent : is_there k i es ≡ false → found k es ≡ None
    place-absent h = subst (λ j. is_there k j es ≡ false → found k es ≡ None) (sym e) (absent es r) h

    place-insert : (v : X) → is_there k i es ≡ false → insert es i (k, v) ≡ inserted k v es
    place-insert v h = subst (λ j. is_there k j es ≡ false → insert es j (k, v) ≡ inserted k v es) (sym e) (insert-place v es) h

    -- the value there grows
    place-grown : (f : X → X) (v : X) (d : List ℕ × X) → is_there k i es ≡ true
        → set es i ((get_or es i d).0, f (get_or es i d).1) ≡ put_in f k v es
    place-grown f v d h = place-set (f (get_or es i d).1) d h ∙ sym (ap (put_by f k v es) (place-value d h))

    -- or the key goes in
    place-first : (f : X → X) (v : X) → is_there k i es ≡ false → insert es i (k, v) ≡ put_in f k v es
    place-first f v h = place-insert v h ∙ sym (ap (put_by f k v es) (place-absent h))

    place-cut : (f : X → X) (s : X → Bool) (d : List ℕ × X) → is_there k i es ≡ true → cut_at f s i (get_or es i d) es ≡ cut_in f s k es
    place-cut f s d h =
        ap (λ zs. cond (s (get_or es i d).1) zs (set es i ((get_or es i d).0, f (get_or es i d).1))) (place-remove h)
        ∙ ap (cond (s (get_or es i d).1) (without k es)) (place-set (f (get_or es i d).1) d h)
        ∙ sym (ap (cut_by f s k es) (place-value d h))

    pub absent-cut : (f : X → X) (s : X → Bool) → is_there k i es ≡ false → es ≡ cut_in f s k es
    absent-cut f s h = sym (ap (cut_by f s k es) (place-absent h))

    place-told : {C : Type 0} (g : X → C) (c : C) (d : List ℕ × X) → is_there k i es ≡ true
        → g (get_or es i d).1 ≡ told_by g c (found k es)
    place-told g c d h = sym (ap (told_by g c) (place-value d h))

    pub absent-told : {C : Type 0} (g : X → C) (c : C) → is_there k i es ≡ false → c ≡ told_by g c (found k es)
    absent-told g c h = sym (ap (told_by g c) (place-absent h))

    pub grown-ok : {T E : Type 0} (f : X → X) (v : X) (zs : List (List ℕ × X)) → is_there k i es ≡ true → (r : Result T E)
        → ((d : List ℕ × X) → OnOk r (zs ≡ set es i ((get_or es i d).0, f (get_or es i d).1))) → OnOk r (zs ≡ put_in f k v es)
    grown-ok f v zs h (Ok t) g = let d = some-pair i es h in g d ∙ place-grown f v d h
    grown-ok f v zs h (Err t) g = tt

    pub first-ok : {T E : Type 0} (f : X → X) (v u : X) → u ≡ v → (zs : List (List ℕ × X)) → is_there k i es ≡ false → (r : Result T E)
        → OnOk r (zs ≡ insert es i (k, u)) → OnOk r (zs ≡ put_in f k v es)
    first-ok f v u w zs h (Ok t) g = g ∙ ap (λ x. insert es i (k, x)) w ∙ place-first f v h
    first-ok f v u w zs h (Err t) g = tt

    pub left-cut : (f : X → X) (s : X → Bool) (zs : List (List ℕ × X)) → is_there k i es ≡ true
        → ((d : List ℕ × X) → zs ≡ cut_at f s i (get_or es i d) es) → zs ≡ cut_in f s k es
    left-cut f s zs h g = let d = some-pair i es h in g d ∙ place-cut f s d h

    pub left-told : {C : Type 0} (g : X → C) (c n : C) → is_there k i es ≡ true → ((d : List ℕ × X) → n ≡ g (get_or es i d).1)
        → n ≡ told_by g c (found k es)
    left-told g c n h t = let d = some-pair i es h in t d ∙ place-told g c d h
