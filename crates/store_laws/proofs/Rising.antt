-- Lists that rise by a revision of their elements: growth, the last element, what passes a test, and what halving finds.
use Rattle.std.proofs.Common.{◌≡◌, ℕ, zero, suc, ◌<◌, ◌≤◌, ◌-◌, List, [], ◌∷◌, ◌++◌, length, get_or, Bool, true, false, not, cond}
use Rattle.std.proofs.Common.{Option, None, Some, find, filter, refl, sym, ◌∙◌, ap, subst, arith}
use Rattle.std.specs.Option.{option_or}
use Rattle.std.specs.List.{AllByRecursion, slice_get}
use Rattle.std.specs.List.Sorted.{IsPartitionedBy, IsPartitionPoint}
use Rattle.kv_model.specs.declared.version.Rev.{Rev}
use Rattle.kv_model.specs.History.{rev_lt}
use Rattle.store_laws.specs.Rising.{IsBehind, IsRising, newest, count_while, is_rev}
use Rattle.store_laws.proofs.PlaceLaws.{each-append, each-filter}
use Rattle.store_laws.proofs.RevOrder.{rev_lt-trans, is_rev-self, is_rev-before, is_rev-behind}

-- ---- the last one

or_some : {X : Type 0} (o : Option X) (y x : X) → option_or o (Some y) ≡ option_or (option_or o (Some y)) (Some x)
or_some None y x = refl
or_some (Some u) y x = refl

pub newest-cons : {X : Type 0} (x y : X) (ys : List X) → newest (y ∷ ys) ≡ newest (x ∷ y ∷ ys)
newest-cons x y ys = or_some (newest ys) y x

pub slice_get-newest : {X : Type 0} (xs : List X) → slice_get xs (length xs - 1) ≡ newest xs
slice_get-newest [] = refl
slice_get-newest (x ∷ []) = refl
slice_get-newest (x ∷ y ∷ ys) =
    let e : suc (suc (length ys)) - 1 ≡ suc (suc (length ys) - 1) = omega arith in
    ap (slice_get (x ∷ y ∷ ys)) e ∙ slice_get-newest (y ∷ ys) ∙ newest-cons x y ys

pub newest-none : {X : Type 0} (xs : List X) → newest xs ≡ None → xs ≡ []
newest-none [] e = refl
newest-none {X} (x ∷ xs) e = by (newest xs) e
  where
    by : (o : Option X) → option_or o (Some x) ≡ None → x ∷ xs ≡ []
    by None e = cc
    by (Some y) e = cc

pub newest-push : {X : Type 0} (xs : List X) (x : X) → newest (xs ++ x ∷ []) ≡ Some x
newest-push [] x = refl
newest-push (y ∷ ys) x = ap (λ o. option_or o (Some y)) (newest-push ys x)

-- ---- what passes a test before what fails it

module _ {X : Type 0} (t : X → Bool) where
  pub count_while-le : (xs : List X) → count_while t xs ≤ length xs
  count_while-le [] = omega arith
  count_while-le (x ∷ xs) = by (t x) (count_while-le xs)
    where
      by : (b : Bool) → count_while t xs ≤ length xs → cond b (suc (count_while t xs)) zero ≤ suc (length xs)
      by true h = omega arith
      by false h = omega arith

  -- the point that halving finds is that number
  pub count_while-point : (xs : List X) (n : ℕ) → n ≤ length xs → IsPartitionPoint (λ x. t x ≡ true) (λ x. t x ≡ false) xs n
      → n ≡ count_while t xs
  count_while-point [] n h s = omega arith
  count_while-point (x ∷ xs) zero h s = ap (λ b. cond b (suc (count_while t xs)) zero) (sym (s.1 0 x (omega arith) (omega arith)))
  count_while-point (x ∷ xs) (suc n) h s =
      ap suc (count_while-point xs n (omega arith)
      ((λ k d l m. s.0 (suc k) d (omega arith) (omega arith)), (λ k d l m. s.1 (suc k) d (omega arith) (omega arith))))
      ∙ ap (λ b. cond b (suc (count_while t xs)) zero) (sym (s.0 0 x (omega arith) (omega arith)))

  -- and the first one that fails the test stands there
  pub find-not : (xs : List X) → find (λ x. not (t x)) xs ≡ slice_get xs (count_while t xs)
  find-not [] = refl
  find-not (x ∷ xs) = by (t x) (find-not xs)
    where
      by : (b : Bool) → find (λ y. not (t y)) xs ≡ slice_get xs (count_while t xs)
          → cond (not b) (Some x) (find (λ y. not (t y)) xs) ≡ slice_get (x ∷ xs) (cond b (suc (count_while t xs)) zero)
      by true rest = rest
      by false rest = refl

  pub kept-all : (xs : List X) → AllByRecursion (λ x. t x ≡ true) xs → filter t xs ≡ xs
  kept-all [] h = refl
  kept-all (x ∷ xs) h = ap (λ b. cond b (x ∷ filter t xs) (filter t xs)) h.0 ∙ ap (λ ys. x ∷ ys) (kept-all xs h.1)

-- what holds of each element holds at each index
pub each-at : {X : Type 0} (P : X → Type 0) (xs : List X) (i : ℕ) (d : X) → AllByRecursion P xs → i < length xs → P (get_or xs i d)
each-at P [] i d h l = absurd (omega arith)
each-at P (x ∷ xs) zero d h l = h.0
each-at P (x ∷ xs) (suc i) d h l = each-at P xs i d h.1 (omega arith)

-- ---- rising lists

module _ {X : Type 0} (rev : X → Rev) where
  -- each element stands behind the place
  abbrev pub IsAbove : Rev → List X → Type 0
  IsAbove p xs = AllByRecursion (λ x. rev_lt p (rev x) ≡ true) xs

  pub rising-push : (xs : List X) (x : X) → IsRising rev xs → IsBehind rev (rev x) xs → IsRising rev (xs ++ x ∷ [])
  rising-push [] x r b = (tt, tt)
  rising-push (y ∷ ys) x r b = (each-append (λ z. rev_lt (rev y) (rev z) ≡ true) ys (x ∷ []) r.0 (b.0, tt), rising-push ys x r.1 b.1)

  pub rising-filter : (t : X → Bool) (xs : List X) → IsRising rev xs → IsRising rev (filter t xs)
  rising-filter t [] r = tt
  rising-filter t (x ∷ xs) r = by (t x) (rising-filter t xs r.1)
    where
      by : (b : Bool) → IsRising rev (filter t xs) → IsRising rev (cond b (x ∷ filter t xs) (filter t xs))
      by true rest = (each-filter (λ y. rev_lt (rev x) (rev y) ≡ true) t xs r.0, rest)
      by false rest = rest

  -- what stands before an element and what stands behind it
  pub rising-parts : (xs : List X) (x : X) (ys : List X) → IsRising rev (xs ++ x ∷ ys) → IsBehind rev (rev x) xs × IsAbove (rev x) ys
  rising-parts [] x ys r = (tt, r.0)
  rising-parts (y ∷ xs) x ys r = let m = rising-parts xs x ys r.1 in ((at xs r.0, m.0), m.1)
    where
      at : (zs : List X) → IsAbove (rev y) (zs ++ x ∷ ys) → rev_lt (rev y) (rev x) ≡ true
      at [] a = a.0
      at (z ∷ zs) a = at zs a.1

  -- what is above the last one is above all
  pub behind-newest : (p : Rev) (xs : List X) (l : X) → IsRising rev xs → newest xs ≡ Some l → rev_lt (rev l) p ≡ true
      → IsBehind rev p xs
  behind-newest p [] l r e h = tt
  behind-newest p (x ∷ []) l r e h = (let same : x ≡ l = cc in subst (λ u. rev_lt (rev u) p ≡ true) (sym same) h, tt)
  behind-newest p (x ∷ y ∷ ys) l r e h =
      let rest : IsBehind rev p (y ∷ ys) = behind-newest p (y ∷ ys) l r.1 (newest-cons x y ys ∙ e) h in
      (rev_lt-trans (rev x) (rev y) p r.0.0 rest.0, rest)

  pub newest-behind : (p : Rev) (xs : List X) (l : X) → newest xs ≡ Some l → IsBehind rev p xs → rev_lt (rev l) p ≡ true
  newest-behind p [] l e b = cc
  newest-behind p (x ∷ []) l e b = let same : x ≡ l = cc in subst (λ u. rev_lt (rev u) p ≡ true) same b.0
  newest-behind p (x ∷ y ∷ ys) l e b = newest-behind p (y ∷ ys) l (newest-cons x y ys ∙ e) b.1

  pub behind-none : (p : Rev) (xs : List X) → newest xs ≡ None → IsBehind rev p xs
  behind-none p xs e = subst (IsBehind rev p) (sym (newest-none xs e)) tt

  -- a test that passes before each element that passes it parts the list
  pub partitioned : (t : X → Bool) → ((x y : X) → rev_lt (rev x) (rev y) ≡ true → t y ≡ true → t x ≡ true) → (xs : List X)
      → IsRising rev xs → IsPartitionedBy t xs
  partitioned t f [] r i j d l m h = absurd (omega arith)
  partitioned t f (x ∷ xs) r zero zero d l m h = h
  partitioned t f (x ∷ xs) r zero (suc j) d l m h =
      f x (get_or xs j d) (each-at (λ y. rev_lt (rev x) (rev y) ≡ true) xs j d r.0 (omega arith)) h
  partitioned t f (x ∷ xs) r (suc i) zero d l m h = absurd (omega arith)
  partitioned t f (x ∷ xs) r (suc i) (suc j) d l m h = partitioned t f xs r.1 i j d (omega arith) (omega arith) h

  -- ---- an element taken out by its revision

  -- what stands behind a place stays, and what stands before it
  pub others-above : (p : Rev) (xs : List X) → IsAbove p xs → filter (λ x. not (is_rev p (rev x))) xs ≡ xs
  others-above p [] a = refl
  others-above p (x ∷ xs) a =
      ap (λ b. cond (not b) (x ∷ filter (λ y. not (is_rev p (rev y))) xs) (filter (λ y. not (is_rev p (rev y))) xs))
      (is_rev-behind p (rev x) a.0)
      ∙ ap (λ ys. x ∷ ys) (others-above p xs a.1)

  pub others-middle : (xs : List X) (x : X) (ys : List X) → IsBehind rev (rev x) xs → IsAbove (rev x) ys
      → filter (λ y. not (is_rev (rev x) (rev y))) (xs ++ x ∷ ys) ≡ xs ++ ys
  others-middle [] x ys b a =
      ap (λ b. cond (not b) (x ∷ filter (λ y. not (is_rev (rev x) (rev y))) ys) (filter (λ y. not (is_rev (rev x) (rev y))) ys))
      (is_rev-self (rev x))
      ∙ others-above (rev x) ys a
  others-middle (z ∷ zs) x ys b a =
      let rest : List X = filter (λ y. not (is_rev (rev x) (rev y))) (zs ++ x ∷ ys) in
      ap (λ b. cond (not b) (z ∷ rest) rest) (is_rev-before (rev x) (rev z) b.0) ∙ ap (λ us. z ∷ us) (others-middle zs x ys b.1 a)
