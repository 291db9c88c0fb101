-- What passes a test of a sorted list is what passes, sorted.
use Rattle.std.proofs.Common.{◌≡◌, ◌∙◌, List, [], ◌∷◌, filter, Bool, true, false, cond, refl, sym, ap}
use Rattle.std.proofs.lemmas.List.Sorted.{ranks_by}
use Rattle.std.specs.Cmp.{IsTotalOrder, IsStrictWeakOrder}
use Rattle.std.specs.declared.cmp.Ordering.{Ordering}
use Rattle.std.specs.declared.cmp.Ordering.TheVariants.{Less, Equal, Greater}
use Rattle.std.specs.Ordering.{is_lt, is_gt, ordering_reverse}
use Rattle.kv_model.specs.Ranges.{insert_by, sorted_by}
use Rattle.range_view.proofs.Sorting.{NoneBelow, Rises}

gt-reversed : (o : Ordering) → is_gt (ordering_reverse o) ≡ is_lt o
gt-reversed Less = refl
gt-reversed Equal = refl
gt-reversed Greater = refl

module _ {X : Type 0} (cmp : X → X → Ordering) (o : IsTotalOrder cmp) where
  abbrev below : X → X → Bool
  below x y = is_lt (cmp x y)

  weak : IsStrictWeakOrder below
  weak = ranks_by o (λ x. x)

  above-below : (x y : X) → is_gt (cmp x y) ≡ below y x
  above-below x y = ap is_gt (o.antisymm x y) ∙ gt-reversed (cmp y x)

  -- what is not below one is not below what that is not above
  chained : (x y : X) (zs : List X) → below y x ≡ false → NoneBelow below y zs → NoneBelow below x zs
  chained x y [] e h = tt
  chained x y (z ∷ zs) e h = (weak.chain z y x h.0 e, chained x y zs e h.1)

  none-inserted : (z x : X) (ys : List X) → below x z ≡ false → NoneBelow below z ys → NoneBelow below z (insert_by cmp x ys)
  none-inserted z x [] e h = (e, tt)
  none-inserted z x (y ∷ ys) e h = by (is_gt (cmp x y)) (none-inserted z x ys e h.1)
    where
      by : (b : Bool) → NoneBelow below z (insert_by cmp x ys) → NoneBelow below z (cond b (y ∷ insert_by cmp x ys) (x ∷ y ∷ ys))
      by true rest = (h.0, rest)
      by false rest = (e, h)

  rises-inserted : (x : X) (ys : List X) → Rises below ys → Rises below (insert_by cmp x ys)
  rises-inserted x [] h = (tt, tt)
  rises-inserted x (y ∷ ys) h = by (is_gt (cmp x y)) refl (rises-inserted x ys h.1)
    where
      by : (b : Bool) → is_gt (cmp x y) ≡ b → Rises below (insert_by cmp x ys) → Rises below (cond b (y ∷ insert_by cmp x ys) (x ∷ y ∷ ys))
      by true e rest = (none-inserted y x ys (weak.one_way y x (sym (above-below x y) ∙ e)) h.0, rest)
      by false e rest = let f : below y x ≡ false = sym (above-below x y) ∙ e in ((f, chained x y ys f h.0), h)

  pub rises-sorted : (xs : List X) → Rises below (sorted_by cmp xs)
  rises-sorted [] = tt
  rises-sorted (x ∷ xs) = rises-inserted x (sorted_by cmp xs) (rises-sorted xs)

  at-head : (x : X) (ys : List X) → NoneBelow below x ys → insert_by cmp x ys ≡ x ∷ ys
  at-head x [] g = refl
  at-head x (y ∷ ys) g = ap (λ b. cond b (y ∷ insert_by cmp x ys) (x ∷ y ∷ ys)) (above-below x y ∙ g.0)

  none-filtered : (p : X → Bool) (x : X) (ys : List X) → NoneBelow below x ys → NoneBelow below x (filter p ys)
  none-filtered p x [] h = tt
  none-filtered p x (y ∷ ys) h = by (p y) (none-filtered p x ys h.1)
    where
      by : (b : Bool) → NoneBelow below x (filter p ys) → NoneBelow below x (cond b (y ∷ filter p ys) (filter p ys))
      by true rest = (h.0, rest)
      by false rest = rest

  split : (p : X → Bool) (b : Bool) (xs ys : List X) → filter p (cond b xs ys) ≡ cond b (filter p xs) (filter p ys)
  split p true xs ys = refl
  split p false xs ys = refl

  filter-inserted : (p : X → Bool) (x : X) (ys : List X) → Rises below ys
      → filter p (insert_by cmp x ys) ≡ cond (p x) (insert_by cmp x (filter p ys)) (filter p ys)
  filter-inserted p x [] h = refl
  filter-inserted p x (y ∷ ys) h = split p (is_gt (cmp x y)) (y ∷ insert_by cmp x ys) (x ∷ y ∷ ys) ∙ by (is_gt (cmp x y)) refl (p y) (p x) (filter-inserted p x ys h.1)
    where
      kept : List X
      kept = filter p ys

      first : is_gt (cmp x y) ≡ false → (c : Bool) → NoneBelow below x (cond c (y ∷ filter p ys) (filter p ys))
      first e c =
          let f : below y x ≡ false = sym (above-below x y) ∙ e in
          let rest : NoneBelow below x (filter p ys) = none-filtered p x ys (chained x y ys f h.0) in
          by_head c f rest
        where
          by_head : (c : Bool) → below y x ≡ false → NoneBelow below x (filter p ys) → NoneBelow below x (cond c (y ∷ filter p ys) (filter p ys))
          by_head true f rest = (f, rest)
          by_head false f rest = rest

      by : (b : Bool) → is_gt (cmp x y) ≡ b → (c d : Bool) → filter p (insert_by cmp x ys) ≡ cond d (insert_by cmp x (filter p ys)) (filter p ys)
          → cond b (cond c (y ∷ filter p (insert_by cmp x ys)) (filter p (insert_by cmp x ys))) (cond d (x ∷ cond c (y ∷ filter p ys) (filter p ys)) (cond c (y ∷ filter p ys) (filter p ys)))
          ≡ cond d (insert_by cmp x (cond c (y ∷ filter p ys) (filter p ys))) (cond c (y ∷ filter p ys) (filter p ys))
      by true e true true rest = ap (λ zs. y ∷ zs) rest ∙ sym (ap (λ b. cond b (y ∷ insert_by cmp x (filter p ys)) (x ∷ y ∷ filter p ys)) e)
      by true e true false rest = ap (λ zs. y ∷ zs) rest
      by true e false true rest = rest
      by true e false false rest = rest
      by false e c true rest = sym (at-head x (cond c (y ∷ filter p ys) (filter p ys)) (first e c))
      by false e c false rest = refl

  pub filter-sorted : (p : X → Bool) (xs : List X) → filter p (sorted_by cmp xs) ≡ sorted_by cmp (filter p xs)
  filter-sorted p [] = refl
  filter-sorted p (x ∷ xs) = filter-inserted p x (sorted_by cmp xs) (rises-sorted xs) ∙ by (p x) (filter-sorted p xs)
    where
      by : (b : Bool) → filter p (sorted_by cmp xs) ≡ sorted_by cmp (filter p xs)
          → cond b (insert_by cmp x (filter p (sorted_by cmp xs))) (filter p (sorted_by cmp xs)) ≡ sorted_by cmp (cond b (x ∷ filter p xs) (filter p xs))
      by true rest = ap (insert_by cmp x) rest
      by false rest = rest
