-- The least number that is no ID.
use Rattle.std.proofs.Common.{◌≡◌, ◌≢◌, ℕ, zero, suc, ◌+◌, ◌≤◌, ◌<◌, ℤ, pos, negsuc, ◌<ℤ◌, ◌≤ℤ◌, ◌⊎◌, inl, inr, Bool, true}
use Rattle.std.proofs.Common.{false, cond, not, ◌||◌, List, [], ◌∷◌, ◌++◌, length, refl, sym, ap, ◌∙◌, Some, arith, add-one}
use Rattle.std.specs.Prelude.{find, int_lt, unwrap_or}
use Rattle.std.specs.Ordering.{int_eq}
use Rattle.std.proofs.lemmas.Int.{ints, by_lt_z}
use Rattle.std.proofs.lemmas.Bool.{cases_lt}
use Rattle.std.proofs.lemmas.Bool.Decides.{Decides-int_eq}
use Rattle.kv_model.specs.Leases.{Lease, has_id, is_granted, count_from, least_free}
use Rattle.lease_book.specs.Entries.{IsAscending, positives, gap, PositivesAbove}
use Rattle.lease_book.proofs.Order.{AreSides, AreBelow, AreBehind, int_eq-self, below_differs, above_differs}
use Rattle.lease_book.proofs.Order.{int_lt-true, each_implies, is_granted-others, others_behind}

-- ---- one step

abbrev next : ℕ → Lease → ℕ
next n l = cond (int_eq l.id (pos n)) (suc n) n

next_hit : (n : ℕ) (l : Lease) → l.id ≡ pos n → next n l ≡ suc n
next_hit n l e = rw (e, int_eq-self (pos n))

next_behind : (n : ℕ) (l : Lease) → pos n <ℤ l.id → next n l ≡ n
next_behind n l h = rw (above_differs l.id (pos n) h)

next_below : (n : ℕ) (l : Lease) → l.id <ℤ pos n → next n l ≡ n
next_below n l h = rw (below_differs l.id (pos n) h)

next_within : (n : ℕ) (l : Lease) → (n ≤ next n l) × (next n l ≤ suc n)
next_within n l = within (int_eq l.id (pos n))
  where
    within : (b : Bool) → (n ≤ cond b (suc n) n) × (cond b (suc n) n ≤ suc n)
    within true = (omega arith, omega arith)
    within false = (omega arith, omega arith)

pub gap-append : (n : ℕ) (xs ys : List Lease) → gap n (xs ++ ys) ≡ gap (gap n xs) ys
gap-append n [] ys = refl
gap-append n (x ∷ xs) ys = gap-append (next n x) xs ys

pub gap-behind : (n : ℕ) (ls : List Lease) → AreBehind (pos n) ls → gap n ls ≡ n
gap-behind n [] h = refl
gap-behind n (l ∷ ls) h = rw (next_behind n l h.0) (gap-behind n ls h.1)

pub gap_above : (n : ℕ) (ls : List Lease) → n ≤ gap n ls
gap_above n [] = omega arith
gap_above n (l ∷ ls) = let w = next_within n l in omega (arith, gap_above (next n l) ls)

pub gap_few : (n : ℕ) (ls : List Lease) → gap n ls ≤ n + length ls
gap_few n [] = omega arith
gap_few n (l ∷ ls) = let w = next_within n l in omega (arith, gap_few (next n l) ls)

pub gap-below : (n : ℕ) (ls : List Lease) → AreBelow (pos n) ls → gap n ls ≡ n
gap-below n [] h = refl
gap-below n (l ∷ ls) h = rw (next_below n l h.0) (gap-below n ls h.1)

-- ---- against the count of IDs above 0

-- only an ID above 0 moves a number above 0 on
pub gap_positives : (n : ℕ) (ls : List Lease) → 0 < n → gap n ls ≤ n + positives ls
gap_positives n [] h = omega arith
gap_positives n (l ∷ ls) h = counted (int_eq l.id (pos n)) refl (λ k j. gap_positives k ls j)
  where
    counted : (b : Bool) → int_eq l.id (pos n) ≡ b → ((k : ℕ) → 0 < k → gap k ls ≤ k + positives ls)
        → gap (cond b (suc n) n) ls ≤ n + (cond (int_lt (pos 0) l.id) 1 0 + positives ls)
    counted true e f =
        let is : l.id ≡ pos n = (Decides-int_eq l.id (pos n)).0 e in
        rw (int_lt-true (pos 0) l.id (rw is (omega (arith, ints, h)))) (omega (arith, f (suc n) (omega arith)))
    counted false e f = omega (arith, f n h)

-- between f and u there is room for the IDs above 0
room : (f u : ℕ) (ls : List Lease) → IsAscending ls → PositivesAbove f ls → AreBelow (pos u) ls → f < u → positives ls + f < u
room f u [] h above below k = omega arith
room f u (l ∷ ls) h above below k = taken l.id refl (λ g a j. room g u ls h.1 a below.1 j)
  where
    taken : (id : ℤ) → l.id ≡ id → ((g : ℕ) → PositivesAbove g ls → g < u → positives ls + g < u) → positives (l ∷ ls) + f < u
    taken (pos zero) e go = rw e (omega (arith, go f above.1 k))
    taken (pos (suc n)) e go =
        let at : f < suc n = let a = above.0 (rw e (omega (arith, ints))) in omega (arith, ints, e) in
        let under : suc n < u = let b = below.0 in omega (arith, ints, e) in
        rw (e, int_lt-true (pos 0) (pos (suc n)) (omega (arith, ints)))
        (omega (arith, go (suc n) (each_implies _ _ (λ m j i. rw (← e) j) ls h.0) under))
    taken (negsuc n) e go = rw e (omega (arith, go f above.1 k))

-- where they fill it, the gap is u
full : (f u : ℕ) (ls : List Lease) → IsAscending ls → PositivesAbove f ls → AreBelow (pos u) ls → positives ls + f + 1 ≡ u
    → gap (suc f) ls ≡ u
full f u [] h above below k = omega arith
full f u (l ∷ ls) h above below k = taken l.id refl (λ g a j. full g u ls h.1 a below.1 j)
  where
    taken : (id : ℤ) → l.id ≡ id → ((g : ℕ) → PositivesAbove g ls → positives ls + g + 1 ≡ u → gap (suc g) ls ≡ u)
        → gap (next (suc f) l) ls ≡ u
    taken (pos zero) e go =
        rw (next_below (suc f) l (rw e (omega (arith, ints)))) (let sum = rw e at k in go f above.1 (omega (arith, sum)))
    taken (pos (suc n)) e go =
        let sum = rw (e, int_lt-true (pos 0) (pos (suc n)) (omega (arith, ints))) at k in
        let at : f < suc n = let a = above.0 (rw e (omega (arith, ints))) in omega (arith, ints, e) in
        let under : suc n < u = let b = below.0 in omega (arith, ints, e) in
        let later : PositivesAbove (suc n) ls = each_implies _ _ (λ m j i. rw (← e) j) ls h.0 in
        let same : f ≡ n = omega (arith, sum, room (suc n) u ls h.1 later below.1 under) in
        rw (next_hit (suc f) l (e ∙ ap (λ v. pos (suc v)) (sym same))) (rw same (go (suc n) later (omega (arith, sum))))
    taken (negsuc n) e go =
        rw (next_below (suc f) l (rw e (omega (arith, ints)))) (let sum = rw e at k in go f above.1 (omega (arith, sum)))

-- ---- at the sides of a lease, where the IDs above 0 are above f

pub gap-low : (f : ℕ) {l : List Lease} {x : Lease} {r : List Lease} → AreSides l x r → x.id ≤ℤ pos 0
    → gap (suc f) (l ++ x ∷ r) ≡ gap (suc f) r
gap-low f {l} {x} {r} s h =
    let under : x.id <ℤ pos (suc f) = omega (arith, ints) in
    gap-append (suc f) l (x ∷ r) ∙ rw (
      gap-below (suc f) l (each_implies _ _ (λ m j. omega (arith, ints)) l s.below),
      next_below (suc f) x under,
    )

pub gap-full : (f u : ℕ) {l : List Lease} {x : Lease} {r : List Lease} → AreSides l x r → PositivesAbove f l → x.id ≡ pos u
    → positives l + f + 1 ≡ u → gap (suc f) (l ++ x ∷ r) ≡ gap (suc u) r
gap-full f u {l} {x} {r} s above is sum = gap-append (suc f) l (x ∷ r)
    ∙ rw (full f u l s.left above (rw is at s.below) sum, next_hit u x is)

pub gap-left : (f u : ℕ) {l : List Lease} {x : Lease} {r : List Lease} → AreSides l x r → PositivesAbove f l → x.id ≡ pos u → f < u
    → positives l + f + 1 ≢ u → gap (suc f) (l ++ x ∷ r) ≡ gap (suc f) l
gap-left f u {l} {x} {r} s above is under ne =
    let few : gap (suc f) l < u = omega (arith, gap_positives (suc f) l (omega arith), room f u l s.left above (rw is at s.below) under) in
    let behind : pos (gap (suc f) l) <ℤ x.id = rw is (omega (arith, ints)) in
    gap-append (suc f) l (x ∷ r) ∙ rw (next_behind (gap (suc f) l) x behind)
    (gap-behind (gap (suc f) l) r (each_implies _ _ (λ m j. omega (arith, ints)) r s.behind))

-- ---- the gap is the least number that is free

pub gap_free : (n : ℕ) (ls : List Lease) → IsAscending ls → is_granted ls (pos (gap n ls)) ≡ false
gap_free n [] h = refl
gap_free n (l ∷ ls) h = passed (int_eq l.id (pos n)) refl (λ k. gap_free k ls h.1)
  where
    passed : (b : Bool) → int_eq l.id (pos n) ≡ b → ((k : ℕ) → is_granted ls (pos (gap k ls)) ≡ false)
        → has_id (pos (gap (cond b (suc n) n) ls)) l || is_granted ls (pos (gap (cond b (suc n) n) ls)) ≡ false
    passed true e go =
        let is : l.id ≡ pos n = (Decides-int_eq l.id (pos n)).0 e in
        let under : l.id <ℤ pos (gap (suc n) ls) = rw is (omega (arith, ints, gap_above (suc n) ls)) in
        rw (below_differs l.id (pos (gap (suc n) ls)) under, go (suc n))
    passed false e go = by_lt_z l.id (pos n)
        (λ under. rw (below_differs l.id (pos (gap n ls)) (omega (arith, ints, gap_above n ls)), go n))
        (λ over.
        let behind : pos n <ℤ l.id = over_strictly n l.id e over in
        rw (gap-behind n ls (each_implies _ _ (λ m j. omega (arith, ints)) ls h.0), e)
        (is_granted-others (pos n) ls (others_behind (pos n) ls (each_implies _ _ (λ m j. omega (arith, ints)) ls h.0))))
      where
        over_strictly : (n : ℕ) (z : ℤ) → int_eq z (pos n) ≡ false → pos n ≤ℤ z → pos n <ℤ z
        over_strictly n z e h = grind (arith, ints)

or_true : (a b : Bool) → b ≡ true → a || b ≡ true
or_true true b h = refl
or_true false b h = h

pub gap_taken : (n : ℕ) (ls : List Lease) (m : ℕ) → n ≤ m → m < gap n ls → is_granted ls (pos m) ≡ true
gap_taken n [] m h k = absurd (omega arith)
gap_taken n (l ∷ ls) m h k = passed (int_eq l.id (pos n)) refl k (λ j i. gap_taken j ls m i)
  where
    passed : (b : Bool) → int_eq l.id (pos n) ≡ b → m < gap (cond b (suc n) n) ls
        → ((j : ℕ) → j ≤ m → m < gap j ls → is_granted ls (pos m) ≡ true) → has_id (pos m) l || is_granted ls (pos m) ≡ true
    passed true e k go = taken (cases_lt n m)
      where
        taken : (n < m) ⊎ (m ≤ n) → has_id (pos m) l || is_granted ls (pos m) ≡ true
        taken (inl i) = or_true (has_id (pos m) l) _ (go (suc n) i k)
        taken (inr i) = let same : m ≡ n = omega arith in rw (same, e)
    passed false e k go = or_true (has_id (pos m) l) _ (go n h k)

find_first : (p : ℕ → Bool) (n k g : ℕ) → n ≤ g → g < n + k → p g ≡ true → ((m : ℕ) → n ≤ m → m < g → p m ≡ false)
    → find p (count_from n k) ≡ Some g
find_first p n zero g h i hit miss = absurd (omega arith)
find_first p n (suc k) g h i hit miss =
    found (cases_lt n g) (λ j. find_first p (suc n) k g j (omega arith) hit (λ m a b. miss m (omega arith) b))
  where
    found : (n < g) ⊎ (g ≤ n) → (n < g → find p (count_from (suc n) k) ≡ Some g) → find p (count_from n (suc k)) ≡ Some g
    found (inl j) go = rw (miss n (omega arith) j) (go j)
    found (inr j) go = let same : n ≡ g = omega arith in rw (same, hit)

pub least_free-gap : (ls : List Lease) → IsAscending ls → least_free ls ≡ gap 1 ls
least_free-gap ls h =
    let few : gap 1 ls < 1 + suc (length ls) = omega (arith, gap_few 1 ls) in
    ap (λ o. unwrap_or o 0) (find_first (λ n. not (is_granted ls (pos n))) 1 (suc (length ls)) (gap 1 ls) (gap_above 1 ls) few
    (ap not (gap_free 1 ls h)) (λ m a b. ap not (gap_taken 1 ls m a b)))

-- ---- the descent to the gap

pub above_zero : (ls : List Lease) → PositivesAbove 0 ls
above_zero [] = tt
above_zero (l ∷ ls) = (λ h. h, above_zero ls)

pub above_left : (f : ℕ) (l : List Lease) (x : Lease) (r : List Lease) → PositivesAbove f (l ++ x ∷ r) → PositivesAbove f l
above_left f [] x r h = tt
above_left f (y ∷ l) x r h = (h.0, above_left f l x r h.1)

pub above_right : (f : ℕ) (l : List Lease) (x : Lease) (r : List Lease) → PositivesAbove f (l ++ x ∷ r) → PositivesAbove f r
above_right f [] x r h = h.1
above_right f (y ∷ l) x r h = above_right f l x r h.1

pub above_here : (f : ℕ) (l : List Lease) (x : Lease) (r : List Lease) → PositivesAbove f (l ++ x ∷ r) → pos 0 <ℤ x.id → pos f <ℤ x.id
above_here f [] x r h = h.0
above_here f (y ∷ l) x r h = above_here f l x r h.1

pub above_later : (u : ℕ) (x : Lease) (r : List Lease) → x.id ≡ pos u → AreBehind x.id r → PositivesAbove u r
above_later u x r e h = each_implies _ _ (λ m j i. rw (← e) j) r h

pub descends_low : (f : ℕ) {l : List Lease} {x : Lease} {r : List Lease} → AreSides l x r → x.id ≤ℤ pos 0
    → gap (f + 1) (l ++ x ∷ r) ≡ gap (f + 1) r
descends_low f {l} {x} {r} s h = rw (add-one f) (gap-low f s h)

pub descends_full : (f p : ℕ) {l : List Lease} {x : Lease} {r : List Lease} → AreSides l x r → PositivesAbove f (l ++ x ∷ r)
    → x.id ≡ pos (f + p + 1) → p ≡ positives l → gap (f + 1) (l ++ x ∷ r) ≡ gap (f + p + 1 + 1) r
descends_full f p {l} {x} {r} s above is e =
    rw (add-one f, add-one (f + p + 1)) (gap-full f (f + p + 1) s (above_left f l x r above) is (omega arith))

pub descends_left : (f p : ℕ) {l : List Lease} {x : Lease} {r : List Lease} → AreSides l x r → PositivesAbove f (l ++ x ∷ r) → pos 0 <ℤ x.id
    → x.id ≢ pos (f + p + 1) → p ≡ positives l → gap (f + 1) (l ++ x ∷ r) ≡ gap (f + 1) l
descends_left f p {l} {x} {r} s above h ne e = at x.id refl
  where
    at : (z : ℤ) → x.id ≡ z → gap (f + 1) (l ++ x ∷ r) ≡ gap (f + 1) l
    at (negsuc n) is = absurd (omega (arith, ints, is))
    at (pos n) is =
        let over : f < n = let k = above_here f l x r above h in omega (arith, ints, is) in
        let other : positives l + f + 1 ≢ n = λ k. ne (is ∙ ap pos (omega arith)) in
        rw (add-one f) (gap-left f n s (above_left f l x r above) is over other)
