-- Pairs that ascend: what a change does behind those below a key, and before those above it.
use Rattle.std.proofs.Common.{◌≡◌, ℕ, List, [], ◌∷◌, ◌++◌, Bool, true, false, cond, Option, None, Some, refl, sym, ◌∙◌, ap, subst}
use Rattle.std.specs.List.{AllByRecursion}
use Rattle.std.specs.declared.cmp.Ordering.{Ordering}
use Rattle.std.specs.declared.cmp.Ordering.TheVariants.{Less, Equal, Greater}
use Rattle.std.specs.Ordering.{ordering_reverse, is_eq, is_gt, is_le, match_ordering}
use Rattle.std.specs.Cmp.Lexicographic.{nat_list_cmp_total}
use Rattle.std.proofs.lemmas.Map.Lookups.{exact_bytes}
use Rattle.kv_model.specs.Keys.{key_cmp}
use Rattle.key_pages.specs.Pairs.{IsAscending, below_key, cut_by, cut_in, found, inserted, put_by, put_in, with_value, without, from_key}

-- ---- keys

pub turn-greater : (k l : List ℕ) → key_cmp k l ≡ Greater → key_cmp l k ≡ Less
turn-greater k l e = nat_list_cmp_total.antisymm l k ∙ ap ordering_reverse e

pub turn-less : (k l : List ℕ) → key_cmp k l ≡ Less → key_cmp l k ≡ Greater
turn-less k l e = nat_list_cmp_total.antisymm l k ∙ ap ordering_reverse e

pub greater : (o : Ordering) → is_gt o ≡ true → o ≡ Greater
greater Less e = cc
greater Equal e = cc
greater Greater e = refl

module _ {X : Type 0} where
  -- each key is below k
  abbrev pub AreBelow : List ℕ → List (List ℕ × X) → Type 0
  AreBelow k es = AllByRecursion (λ e. key_cmp k e.0 ≡ Greater) es

  -- each key is above k
  abbrev pub AreAbove : List ℕ → List (List ℕ × X) → Type 0
  AreAbove k es = AllByRecursion (λ e. key_cmp k e.0 ≡ Less) es

  pub above-trans : (j k : List ℕ) (es : List (List ℕ × X)) → key_cmp j k ≡ Less → AreAbove k es → AreAbove j es
  above-trans j k [] e h = tt
  above-trans j k (f ∷ es) e h = (nat_list_cmp_total.trans j k f.0 e h.0, above-trans j k es e h.1)

  pub each-parts : (P : List ℕ × X → Type 0) (xs ys : List (List ℕ × X)) → AllByRecursion P (xs ++ ys) → AllByRecursion P xs × AllByRecursion P ys
  each-parts P [] ys h = (tt, h)
  each-parts P (x ∷ xs) ys h = let k = each-parts P xs ys h.1 in ((h.0, k.0), k.1)

  -- two parts of what ascends
  pub record Parted (xs ys : List (List ℕ × X)) : Type 0 where
    pub front : IsAscending xs
    pub back : IsAscending ys
    pub apart : AllByRecursion (λ (x : List ℕ × X). AreAbove x.0 ys) xs

  pub parted : (xs ys : List (List ℕ × X)) → IsAscending (xs ++ ys) → Parted xs ys
  parted [] ys r = record { front = tt; back = r; apart = tt }
  parted (x ∷ xs) ys r =
      let rest = parted xs ys r.1 in
      let here = each-parts (λ y. key_cmp x.0 y.0 ≡ Less) xs ys r.0 in
      record { front = (here.0, rest.front); back = rest.back; apart = (here.1, rest.apart) }

  -- those before a key that is not above k are below k
  pub below-first : (k : List ℕ) (y : List ℕ × X) (ys xs : List (List ℕ × X)) → (key_cmp k y.0 ≡ Less → ⊥)
      → AllByRecursion (λ (x : List ℕ × X). AreAbove x.0 (y ∷ ys)) xs → AreBelow k xs
  below-first k y ys [] n h = tt
  below-first k y ys (x ∷ xs) n h = (by (key_cmp k y.0) refl, below-first k y ys xs n h.1)
    where
      by : (o : Ordering) → key_cmp k y.0 ≡ o → key_cmp k x.0 ≡ Greater
      by Less e = absurd (n e)
      by Equal e = subst (λ j. key_cmp j x.0 ≡ Greater) (sym (exact_bytes k y.0 e)) (turn-less x.0 y.0 h.0.0)
      by Greater e = turn-less x.0 k (nat_list_cmp_total.trans x.0 y.0 k h.0.0 (turn-greater k y.0 e))

  -- ---- what stands below a key, or above it, does not matter

  module _ (k : List ℕ) where
    -- a change goes on behind what is below the key, and leaves what is above it
    pub record IsLocal (f : List (List ℕ × X) → List (List ℕ × X)) : Type 0 where
      pub front : (xs ys : List (List ℕ × X)) → AreBelow k xs → f (xs ++ ys) ≡ xs ++ f ys
      pub back : (xs ys : List (List ℕ × X)) → AreAbove k ys → f (xs ++ ys) ≡ f xs ++ ys

    pub found-front : (xs ys : List (List ℕ × X)) → AreBelow k xs → found k (xs ++ ys) ≡ found k ys
    found-front [] ys h = refl
    found-front (x ∷ xs) ys h = ap (λ o. cond (is_eq o) (Some x.1) (found k (xs ++ ys))) h.0 ∙ found-front xs ys h.1

    pub found-above : (ys : List (List ℕ × X)) → AreAbove k ys → found k ys ≡ None
    found-above [] h = refl
    found-above (y ∷ ys) h = ap (λ o. cond (is_eq o) (Some y.1) (found k ys)) h.0 ∙ found-above ys h.1

    pub found-back : (xs ys : List (List ℕ × X)) → AreAbove k ys → found k (xs ++ ys) ≡ found k xs
    found-back [] ys h = found-above ys h
    found-back (x ∷ xs) ys h = ap (cond (is_eq (key_cmp k x.0)) (Some x.1)) (found-back xs ys h)

    set-front : (v : X) (xs ys : List (List ℕ × X)) → AreBelow k xs → with_value k v (xs ++ ys) ≡ xs ++ with_value k v ys
    set-front v [] ys h = refl
    set-front v (x ∷ xs) ys h =
        ap (λ o. cond (is_eq o) ((x.0, v) ∷ xs ++ ys) (x ∷ with_value k v (xs ++ ys))) h.0 ∙ ap (λ zs. x ∷ zs) (set-front v xs ys h.1)

    set-above : (v : X) (ys : List (List ℕ × X)) → AreAbove k ys → with_value k v ys ≡ ys
    set-above v [] h = refl
    set-above v (y ∷ ys) h = ap (λ o. cond (is_eq o) ((y.0, v) ∷ ys) (y ∷ with_value k v ys)) h.0 ∙ ap (λ zs. y ∷ zs) (set-above v ys h.1)

    set-back : (v : X) (xs ys : List (List ℕ × X)) → AreAbove k ys → with_value k v (xs ++ ys) ≡ with_value k v xs ++ ys
    set-back v [] ys h = set-above v ys h
    set-back v (x ∷ xs) ys h = by (is_eq (key_cmp k x.0)) (set-back v xs ys h)
      where
        by : (b : Bool) → with_value k v (xs ++ ys) ≡ with_value k v xs ++ ys
            → cond b ((x.0, v) ∷ xs ++ ys) (x ∷ with_value k v (xs ++ ys)) ≡ cond b ((x.0, v) ∷ xs) (x ∷ with_value k v xs) ++ ys
        by true e = refl
        by false e = ap (λ zs. x ∷ zs) e

    pub set-local : (v : X) → IsLocal (with_value k v)
    set-local v = record { front = set-front v; back = set-back v }

    remove-front : (xs ys : List (List ℕ × X)) → AreBelow k xs → without k (xs ++ ys) ≡ xs ++ without k ys
    remove-front [] ys h = refl
    remove-front (x ∷ xs) ys h =
        ap (λ o. cond (is_eq o) (xs ++ ys) (x ∷ without k (xs ++ ys))) h.0 ∙ ap (λ zs. x ∷ zs) (remove-front xs ys h.1)

    remove-above : (ys : List (List ℕ × X)) → AreAbove k ys → without k ys ≡ ys
    remove-above [] h = refl
    remove-above (y ∷ ys) h = ap (λ o. cond (is_eq o) ys (y ∷ without k ys)) h.0 ∙ ap (λ zs. y ∷ zs) (remove-above ys h.1)

    remove-back : (xs ys : List (List ℕ × X)) → AreAbove k ys → without k (xs ++ ys) ≡ without k xs ++ ys
    remove-back [] ys h = remove-above ys h
    remove-back (x ∷ xs) ys h = by (is_eq (key_cmp k x.0)) (remove-back xs ys h)
      where
        by : (b : Bool) → without k (xs ++ ys) ≡ without k xs ++ ys → cond b (xs ++ ys) (x ∷ without k (xs ++ ys)) ≡ cond b xs (x ∷ without k xs) ++ ys
        by true e = refl
        by false e = ap (λ zs. x ∷ zs) e

    pub remove-local : IsLocal (without k)
    remove-local = record { front = remove-front; back = remove-back }

    insert-front : (v : X) (xs ys : List (List ℕ × X)) → AreBelow k xs → inserted k v (xs ++ ys) ≡ xs ++ inserted k v ys
    insert-front v [] ys h = refl
    insert-front v (x ∷ xs) ys h =
        ap (λ o. match_ordering o ((k, v) ∷ x ∷ xs ++ ys) ((x.0, v) ∷ xs ++ ys) (x ∷ inserted k v (xs ++ ys))) h.0
        ∙ ap (λ zs. x ∷ zs) (insert-front v xs ys h.1)

    insert-above : (v : X) (ys : List (List ℕ × X)) → AreAbove k ys → inserted k v ys ≡ (k, v) ∷ ys
    insert-above v [] h = refl
    insert-above v (y ∷ ys) h = ap (λ o. match_ordering o ((k, v) ∷ y ∷ ys) ((y.0, v) ∷ ys) (y ∷ inserted k v ys)) h.0

    insert-back : (v : X) (xs ys : List (List ℕ × X)) → AreAbove k ys → inserted k v (xs ++ ys) ≡ inserted k v xs ++ ys
    insert-back v [] ys h = insert-above v ys h
    insert-back v (x ∷ xs) ys h = by (key_cmp k x.0) (insert-back v xs ys h)
      where
        by : (o : Ordering) → inserted k v (xs ++ ys) ≡ inserted k v xs ++ ys
            → match_ordering o ((k, v) ∷ x ∷ xs ++ ys) ((x.0, v) ∷ xs ++ ys) (x ∷ inserted k v (xs ++ ys))
            ≡ match_ordering o ((k, v) ∷ x ∷ xs) ((x.0, v) ∷ xs) (x ∷ inserted k v xs) ++ ys
        by Less e = refl
        by Equal e = refl
        by Greater e = ap (λ zs. x ∷ zs) e

    pub insert-local : (v : X) → IsLocal (inserted k v)
    insert-local v = record { front = insert-front v; back = insert-back v }

    put-front : (f : X → X) (v : X) (xs ys : List (List ℕ × X)) → AreBelow k xs → put_in f k v (xs ++ ys) ≡ xs ++ put_in f k v ys
    put-front f v xs ys h = ap (put_by f k v (xs ++ ys)) (found-front xs ys h) ∙ by (found k ys)
      where
        by : (o : Option X) → put_by f k v (xs ++ ys) o ≡ xs ++ put_by f k v ys o
        by None = insert-front v xs ys h
        by (Some w) = set-front (f w) xs ys h

    put-back : (f : X → X) (v : X) (xs ys : List (List ℕ × X)) → AreAbove k ys → put_in f k v (xs ++ ys) ≡ put_in f k v xs ++ ys
    put-back f v xs ys h = ap (put_by f k v (xs ++ ys)) (found-back xs ys h) ∙ by (found k xs)
      where
        by : (o : Option X) → put_by f k v (xs ++ ys) o ≡ put_by f k v xs o ++ ys
        by None = insert-back v xs ys h
        by (Some w) = set-back (f w) xs ys h

    pub put-local : (f : X → X) (v : X) → IsLocal (put_in f k v)
    put-local f v = record { front = put-front f v; back = put-back f v }

    cut-front : (f : X → X) (s : X → Bool) (xs ys : List (List ℕ × X)) → AreBelow k xs → cut_in f s k (xs ++ ys) ≡ xs ++ cut_in f s k ys
    cut-front f s xs ys h = ap (cut_by f s k (xs ++ ys)) (found-front xs ys h) ∙ by (found k ys)
      where
        test : (b : Bool) (w : X) → cond b (without k (xs ++ ys)) (with_value k (f w) (xs ++ ys)) ≡ xs ++ cond b (without k ys) (with_value k (f w) ys)
        test true w = remove-front xs ys h
        test false w = set-front (f w) xs ys h

        by : (o : Option X) → cut_by f s k (xs ++ ys) o ≡ xs ++ cut_by f s k ys o
        by None = refl
        by (Some w) = test (s w) w

    cut-back : (f : X → X) (s : X → Bool) (xs ys : List (List ℕ × X)) → AreAbove k ys → cut_in f s k (xs ++ ys) ≡ cut_in f s k xs ++ ys
    cut-back f s xs ys h = ap (cut_by f s k (xs ++ ys)) (found-back xs ys h) ∙ by (found k xs)
      where
        test : (b : Bool) (w : X) → cond b (without k (xs ++ ys)) (with_value k (f w) (xs ++ ys)) ≡ cond b (without k xs) (with_value k (f w) xs) ++ ys
        test true w = remove-back xs ys h
        test false w = set-back (f w) xs ys h

        by : (o : Option X) → cut_by f s k (xs ++ ys) o ≡ cut_by f s k xs o ++ ys
        by None = refl
        by (Some w) = test (s w) w

    pub cut-local : (f : X → X) (s : X → Bool) → IsLocal (cut_in f s k)
    cut-local f s = record { front = cut-front f s; back = cut-back f s }

    -- behind all others
    pub insert-behind : (v : X) (xs : List (List ℕ × X)) → AreBelow k xs → inserted k v xs ≡ xs ++ (k, v) ∷ []
    insert-behind v [] h = refl
    insert-behind v (x ∷ xs) h =
        ap (λ o. match_ordering o ((k, v) ∷ x ∷ xs) ((x.0, v) ∷ xs) (x ∷ inserted k v xs)) h.0 ∙ ap (λ zs. x ∷ zs) (insert-behind v xs h.1)

    -- ---- the keys from k on

    pub from-front : (xs ys : List (List ℕ × X)) → AreBelow k xs → from_key k (xs ++ ys) ≡ from_key k ys
    from-front [] ys h = refl
    from-front (x ∷ xs) ys h = ap (λ o. cond (is_le o) (x ∷ from_key k (xs ++ ys)) (from_key k (xs ++ ys))) h.0 ∙ from-front xs ys h.1

    pub from-above : (ys : List (List ℕ × X)) → AreAbove k ys → from_key k ys ≡ ys
    from-above [] h = refl
    from-above (y ∷ ys) h = ap (λ o. cond (is_le o) (y ∷ from_key k ys) (from_key k ys)) h.0 ∙ ap (λ zs. y ∷ zs) (from-above ys h.1)

    pub from-back : (xs ys : List (List ℕ × X)) → AreAbove k ys → from_key k (xs ++ ys) ≡ from_key k xs ++ ys
    from-back [] ys h = from-above ys h
    from-back (x ∷ xs) ys h = by (is_le (key_cmp k x.0)) (from-back xs ys h)
      where
        by : (b : Bool) → from_key k (xs ++ ys) ≡ from_key k xs ++ ys
            → cond b (x ∷ from_key k (xs ++ ys)) (from_key k (xs ++ ys)) ≡ cond b (x ∷ from_key k xs) (from_key k xs) ++ ys
        by true e = ap (λ zs. x ∷ zs) e
        by false e = e

  -- ---- they still ascend

  each-set : (P : List ℕ → Type 0) (k : List ℕ) (v : X) (es : List (List ℕ × X)) → AllByRecursion (λ e. P e.0) es
      → AllByRecursion (λ e. P e.0) (with_value k v es)
  each-set P k v [] h = tt
  each-set P k v (e ∷ es) h = by (is_eq (key_cmp k e.0)) (each-set P k v es h.1)
    where
      by : (b : Bool) → AllByRecursion (λ f. P f.0) (with_value k v es) → AllByRecursion (λ f. P f.0) (cond b ((e.0, v) ∷ es) (e ∷ with_value k v es))
      by true rest = h
      by false rest = (h.0, rest)

  pub ascending-set : (k : List ℕ) (v : X) (es : List (List ℕ × X)) → IsAscending es → IsAscending (with_value k v es)
  ascending-set k v [] h = tt
  ascending-set k v (e ∷ es) h = by (is_eq (key_cmp k e.0)) (ascending-set k v es h.1)
    where
      by : (b : Bool) → IsAscending (with_value k v es) → IsAscending (cond b ((e.0, v) ∷ es) (e ∷ with_value k v es))
      by true rest = h
      by false rest = (each-set (λ j. key_cmp e.0 j ≡ Less) k v es h.0, rest)

  each-remove : (P : List ℕ → Type 0) (k : List ℕ) (es : List (List ℕ × X)) → AllByRecursion (λ e. P e.0) es → AllByRecursion (λ e. P e.0) (without k es)
  each-remove P k [] h = tt
  each-remove P k (e ∷ es) h = by (is_eq (key_cmp k e.0)) (each-remove P k es h.1)
    where
      by : (b : Bool) → AllByRecursion (λ f. P f.0) (without k es) → AllByRecursion (λ f. P f.0) (cond b es (e ∷ without k es))
      by true rest = h.1
      by false rest = (h.0, rest)

  pub ascending-remove : (k : List ℕ) (es : List (List ℕ × X)) → IsAscending es → IsAscending (without k es)
  ascending-remove k [] h = tt
  ascending-remove k (e ∷ es) h = by (is_eq (key_cmp k e.0)) (ascending-remove k es h.1)
    where
      by : (b : Bool) → IsAscending (without k es) → IsAscending (cond b es (e ∷ without k es))
      by true rest = h.1
      by false rest = (each-remove (λ j. key_cmp e.0 j ≡ Less) k es h.0, rest)

  each-insert : (P : List ℕ → Type 0) (k : List ℕ) (v : X) → P k → (es : List (List ℕ × X)) → AllByRecursion (λ e. P e.0) es
      → AllByRecursion (λ e. P e.0) (inserted k v es)
  each-insert P k v p [] h = (p, tt)
  each-insert P k v p (e ∷ es) h = by (key_cmp k e.0) (each-insert P k v p es h.1)
    where
      by : (o : Ordering) → AllByRecursion (λ f. P f.0) (inserted k v es)
          → AllByRecursion (λ f. P f.0) (match_ordering o ((k, v) ∷ e ∷ es) ((e.0, v) ∷ es) (e ∷ inserted k v es))
      by Less rest = (p, h)
      by Equal rest = h
      by Greater rest = (h.0, rest)

  pub ascending-insert : (k : List ℕ) (v : X) (es : List (List ℕ × X)) → IsAscending es → IsAscending (inserted k v es)
  ascending-insert k v [] h = (tt, tt)
  ascending-insert k v (e ∷ es) h = by (key_cmp k e.0) refl (ascending-insert k v es h.1)
    where
      by : (o : Ordering) → key_cmp k e.0 ≡ o → IsAscending (inserted k v es)
          → IsAscending (match_ordering o ((k, v) ∷ e ∷ es) ((e.0, v) ∷ es) (e ∷ inserted k v es))
      by Less f rest = ((f, above-trans k e.0 es f h.0), h)
      by Equal f rest = h
      by Greater f rest = (each-insert (λ j. key_cmp e.0 j ≡ Less) k v (turn-greater k e.0 f) es h.0, rest)

  pub ascending-put : (f : X → X) (k : List ℕ) (v : X) (es : List (List ℕ × X)) → IsAscending es → IsAscending (put_in f k v es)
  ascending-put f k v es h = by (found k es)
    where
      by : (o : Option X) → IsAscending (put_by f k v es o)
      by None = ascending-insert k v es h
      by (Some w) = ascending-set k (f w) es h

  pub ascending-cut : (f : X → X) (s : X → Bool) (k : List ℕ) (es : List (List ℕ × X)) → IsAscending es → IsAscending (cut_in f s k es)
  ascending-cut f s k es h = by (found k es)
    where
      test : (b : Bool) (w : X) → IsAscending (cond b (without k es) (with_value k (f w) es))
      test true w = ascending-remove k es h
      test false w = ascending-set k (f w) es h

      by : (o : Option X) → IsAscending (cut_by f s k es o)
      by None = h
      by (Some w) = test (s w) w

  -- ---- a walk to a key

  none-above : (k : List ℕ) (es : List (List ℕ × X)) → AreAbove k es → below_key k es ≡ []
  none-above k [] h = refl
  none-above k (e ∷ es) h = ap (λ o. cond (is_gt o) (e ∷ below_key k es) (below_key k es)) h.0 ∙ none-above k es h.1

  -- where the first key is not below it none is
  pub none-below : (k : List ℕ) (e : List ℕ × X) (es : List (List ℕ × X)) → IsAscending (e ∷ es) → is_gt (key_cmp k e.0) ≡ false
      → below_key k (e ∷ es) ≡ []
  none-below k e es r h = ap (λ b. cond b (e ∷ below_key k es) (below_key k es)) h ∙ by (key_cmp k e.0) refl h
    where
      by : (o : Ordering) → key_cmp k e.0 ≡ o → is_gt (key_cmp k e.0) ≡ false → below_key k es ≡ []
      by Less f g = none-above k es (above-trans k e.0 es f r.0)
      by Equal f g = none-above k es (subst (λ j. AreAbove j es) (sym (exact_bytes k e.0 f)) r.0)
      by Greater f g = let no : true ≡ false = sym (ap is_gt f) ∙ g in cc
