-- Parts of lists, their ends, and the pairs of neighbours within them.
use Rattle.std.proofs.Common.{◌≡◌, ◌≢◌, ℕ, zero, suc, ◌+◌, ◌*◌, ◌-◌, ◌/◌, ◌%◌, ◌<◌, ◌≤◌, List, [], ◌∷◌, length, get_or, take, drop, map}
use Rattle.std.proofs.Common.{Bool, true, false, ◌&&◌, refl, sym, ◌∙◌, ap, subst, arith}
use Rattle.std.specs.List.{list_all}
pub use Rattle.shown_ranges.proofs.Gathering.{map-length}
use Rattle.live_keys.specs.Parts.{between, pairs_by}

-- ---- the ends of a part

pub first-out : {X : Type 0} (p : X → Bool) (xs : List X) (from to : ℕ) (d : X) → from < to → to ≤ length xs
    → list_all p (between from to xs) ≡ (p (get_or xs from d) && list_all p (between (suc from) to xs))
first-out p [] from to d l m = absurd (omega arith)
first-out p (x ∷ xs) from zero d l m = absurd (omega arith)
first-out p (x ∷ xs) zero (suc to) d l m = refl
first-out p (x ∷ xs) (suc from) (suc to) d l m = first-out p xs from to d (omega arith) (omega arith)

and-true : (b : Bool) → (b && true) ≡ b
and-true true = refl
and-true false = refl

and-in : (a b c : Bool) → (a && (b && c)) ≡ ((a && b) && c)
and-in true b c = refl
and-in false b c = refl

and-turned : (a b : Bool) → (a && b) ≡ (b && a)
and-turned true true = refl
and-turned true false = refl
and-turned false true = refl
and-turned false false = refl

pub last-out : {X : Type 0} (p : X → Bool) (xs : List X) (from m : ℕ) (d : X) → from ≤ m → suc m ≤ length xs
    → list_all p (between from (suc m) xs) ≡ (list_all p (between from m xs) && p (get_or xs m d))
last-out p [] from m d l h = absurd (omega arith)
last-out p (x ∷ xs) zero zero d l h = and-true (p x)
last-out p (x ∷ xs) zero (suc m) d l h =
    ap (λ b. p x && b) (last-out p xs zero m d (omega arith) (omega arith)) ∙ and-in (p x) (list_all p (take m xs)) (p (get_or xs m d))
last-out p (x ∷ xs) (suc from) zero d l h = absurd (omega arith)
last-out p (x ∷ xs) (suc from) (suc m) d l h = last-out p xs from m d (omega arith) (omega arith)

-- the first of a part, where it is no first of a pair
pub first-even : {X : Type 0} (p : X → Bool) (xs : List X) (from to : ℕ) → from % 2 ≡ 0
    → list_all p (between from to xs) ≡ list_all p (between (2 * (from / 2 + from % 2)) to xs)
first-even p xs from to e = let same : 2 * (from / 2 + from % 2) ≡ from = omega (arith, e) in ap (λ n. list_all p (between n to xs)) (sym same)

pub first-odd : {X : Type 0} (p : X → Bool) (xs : List X) (from to : ℕ) (d : X) → from % 2 ≢ 0 → from < to → to ≤ length xs
    → list_all p (between from to xs) ≡ (p (get_or xs from d) && list_all p (between (2 * (from / 2 + from % 2)) to xs))
first-odd p xs from to d e l m =
    let next : suc from ≡ 2 * (from / 2 + from % 2) = omega (arith, e) in
    first-out p xs from to d l m ∙ ap (λ n. p (get_or xs from d) && list_all p (between n to xs)) next

-- and the last
pub last-even : {X : Type 0} (p : X → Bool) (xs : List X) (from to : ℕ) → to % 2 ≡ 0
    → list_all p (between (2 * (from / 2 + from % 2)) to xs) ≡ list_all p (between (2 * (from / 2 + from % 2)) (2 * (to / 2)) xs)
last-even p xs from to e =
    let same : to ≡ 2 * (to / 2) = omega (arith, e) in ap (λ n. list_all p (between (2 * (from / 2 + from % 2)) n xs)) same

pub last-odd : {X : Type 0} (p : X → Bool) (xs : List X) (from to : ℕ) (d : X) → to % 2 ≢ 0 → from < to → to ≤ length xs
    → list_all p (between (2 * (from / 2 + from % 2)) to xs)
    ≡ (p (get_or xs (to - 1) d) && list_all p (between (2 * (from / 2 + from % 2)) (2 * (to / 2)) xs))
last-odd {X} p xs from to d e l m = by to refl
  where
    start : ℕ
    start = 2 * (from / 2 + from % 2)

    by : (n : ℕ) → to ≡ n → list_all p (between start to xs) ≡ (p (get_or xs (to - 1) d) && list_all p (between start (2 * (to / 2)) xs))
    by zero f = absurd (omega (arith, f, l))
    by (suc n) f =
        let even : n ≡ 2 * (to / 2) = omega (arith, e, f) in
        let before : to - 1 ≡ n = omega (arith, f) in
        let first : start ≤ n = omega (arith, e, f, l) in
        ap (λ k. list_all p (between start k xs)) f
        ∙ last-out p xs start n d first (omega (arith, f, m))
        ∙ and-turned (list_all p (between start n xs)) (p (get_or xs n d))
        ∙ (λ i. p (get_or xs (sym before i) d) && list_all p (between start (even i) xs))

-- ---- pairs

double : ℕ → ℕ
double zero = zero
double (suc n) = suc (suc (double n))

double-is : (n : ℕ) → double n ≡ 2 * n
unfolding double
double-is zero = refl
double-is (suc n) = let rest : double n ≡ 2 * n = double-is n in omega (arith, rest)

between-none : {X : Type 0} (from : ℕ) (xs : List X) → between from 0 xs ≡ []
between-none zero xs = refl
between-none (suc from) xs = refl

pairs-between : {X Y : Type 0} (p : X → Bool) (q : Y → Bool) (g : X → X → Y) → ((x y : X) → q (g x y) ≡ (p x && p y))
    → (a b : ℕ) (xs : List X) → double b ≤ length xs
    → list_all q (between a b (pairs_by g xs)) ≡ list_all p (between (double a) (double b) xs)
unfolding double
pairs-between p q g h a zero xs l = ap (list_all q) (between-none a (pairs_by g xs)) ∙ sym (ap (list_all p) (between-none (double a) xs))
pairs-between p q g h a (suc b) [] l = absurd (omega arith)
pairs-between p q g h a (suc b) (x ∷ []) l = absurd (omega arith)
pairs-between p q g h zero (suc b) (x ∷ y ∷ zs) l =
    (λ i. h x y i && pairs-between p q g h zero b zs (omega arith) i)
    ∙ sym (and-in (p x) (p y) (list_all p (take (double b) zs)))
pairs-between p q g h (suc a) (suc b) (x ∷ y ∷ zs) l = pairs-between p q g h a b zs (omega arith)

-- a part of the pairs is as the elements of these
pub pairs-part : {X Y : Type 0} (p : X → Bool) (q : Y → Bool) (g : X → X → Y) → ((x y : X) → q (g x y) ≡ (p x && p y))
    → (a b : ℕ) (xs : List X) → 2 * b ≤ length xs
    → list_all p (between (2 * a) (2 * b) xs) ≡ list_all q (between a b (pairs_by g xs))
pairs-part p q g h a b xs l =
    (λ i. list_all p (between (sym (double-is a) i) (sym (double-is b) i) xs))
    ∙ sym (pairs-between p q g h a b xs (subst (λ n. n ≤ length xs) (sym (double-is b)) l))

pub pairs-length : {X Y : Type 0} (g : X → X → Y) (xs : List X) → 2 * length (pairs_by g xs) ≤ length xs
pairs-length g [] = omega arith
pairs-length g (x ∷ []) = omega arith
pairs-length g (x ∷ y ∷ zs) = let rest : 2 * length (pairs_by g zs) ≤ length zs = pairs-length g zs in omega (arith, rest)

pub pairs-room : {X Y : Type 0} (g : X → X → Y) (xs : List X) (n : ℕ) → n ≤ length xs → n / 2 ≤ length (pairs_by g xs)
pairs-room g [] n l = omega arith
pairs-room g (x ∷ []) n l = omega arith
pairs-room g (x ∷ y ∷ zs) zero l = omega arith
pairs-room g (x ∷ y ∷ zs) (suc zero) l = omega arith
pairs-room g (x ∷ y ∷ zs) (suc (suc n)) l =
    let rest : n / 2 ≤ length (pairs_by g zs) = pairs-room g zs n (omega arith) in omega (arith, rest)

pub few-pairs : {X Y : Type 0} (g : X → X → Y) (xs : List X) → length xs < 2 → pairs_by g xs ≡ []
few-pairs g [] l = refl
few-pairs g (x ∷ []) l = refl
few-pairs g (x ∷ y ∷ zs) l = absurd (omega arith)

-- ---- parts of what is seen of a list

pub between-map : {X Y : Type 0} (f : X → Y) (from to : ℕ) (xs : List X) → between from to (map f xs) ≡ map f (between from to xs)
between-map f zero zero xs = refl
between-map f (suc from) zero xs = refl
between-map f from (suc to) [] = by from
  where
    by : (n : ℕ) → between n (suc to) (map f []) ≡ map f (between n (suc to) [])
    by zero = refl
    by (suc n) = refl
between-map f zero (suc to) (x ∷ xs) = ap (λ ys. f x ∷ ys) (between-map f zero to xs)
between-map f (suc from) (suc to) (x ∷ xs) = between-map f from to xs

pub between-all : {X : Type 0} (n : ℕ) (xs : List X) → length xs ≤ n → between 0 n xs ≡ xs
between-all zero [] l = refl
between-all (suc n) [] l = refl
between-all zero (x ∷ xs) l = absurd (omega arith)
between-all (suc n) (x ∷ xs) l = ap (λ ys. x ∷ ys) (between-all n xs (omega arith))

pub between-empty : {X : Type 0} (from to : ℕ) (xs : List X) → to ≤ from → between from to xs ≡ []
between-empty from zero xs l = between-none from xs
between-empty zero (suc to) xs l = absurd (omega arith)
between-empty (suc from) (suc to) [] l = refl
between-empty (suc from) (suc to) (x ∷ xs) l = between-empty from to xs (omega arith)

pub between-some : {X : Type 0} (from to : ℕ) (xs : List X) → from < to → to ≤ length xs → 0 < length (between from to xs)
between-some from zero xs l m = absurd (omega arith)
between-some from (suc to) [] l m = absurd (omega arith)
between-some zero (suc to) (x ∷ xs) l m = omega arith
between-some (suc from) (suc to) (x ∷ xs) l m = between-some from to xs (omega arith) (omega arith)

-- and as std cuts them
pub between-slice : {X : Type 0} (from to : ℕ) (xs : List X) → from ≤ to → take (to - from) (drop from xs) ≡ between from to xs
between-slice zero to xs l = let whole : to - 0 ≡ to = omega arith in ap (λ n. take n xs) whole
between-slice (suc from) zero xs l = absurd (omega arith)
between-slice {X} (suc from) (suc to) [] l = by (suc to - suc from)
  where
    by : (n : ℕ) → take {A = X} n [] ≡ []
    by zero = refl
    by (suc n) = refl
between-slice (suc from) (suc to) (x ∷ xs) l =
    let less : suc to - suc from ≡ to - from = omega arith in ap (λ n. take n (drop from xs)) less ∙ between-slice from to xs (omega arith)
