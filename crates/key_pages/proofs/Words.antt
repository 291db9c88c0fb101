-- Keys compare as the numbers that their first eight bytes make, and where these are the same as what stands behind.
use Rattle.std.proofs.Common.{◌≡◌, ℕ, zero, suc, ◌+◌, ◌*◌, ◌<◌, ◌≤◌, List, [], ◌∷◌, length, get_or, take, drop}
use Rattle.std.proofs.Common.{true, false, refl, sym, ◌∙◌, ap, arith}
use Rattle.std.specs.Int.{w64, from_be_bytes}
use Rattle.std.specs.declared.cmp.Ordering.{Ordering}
use Rattle.std.specs.declared.cmp.Ordering.TheVariants.{Less, Equal, Greater}
use Rattle.std.specs.Ordering.{nat_cmp, ordering_then, is_eq, MatchOrdering}
use Rattle.std.specs.Cmp.{nat_cmp_is, ranks}
use Rattle.kv_model.specs.Keys.{key_cmp}

-- the number that bytes make behind others that make p
abbrev horner : ℕ → List ℕ → ℕ
horner p [] = p
horner p (x ∷ xs) = horner (p * 256 + x) xs

-- one byte more of each number
step : (p q x y : ℕ) → x < 256 → y < 256 → nat_cmp (p * 256 + x) (q * 256 + y) ≡ ordering_then (nat_cmp p q) (nat_cmp x y)
step p q x y a b = by (nat_cmp p q) (ranks p q)
  where
    same : (o : Ordering) → p ≡ q → MatchOrdering o (x < y) (x ≡ y) (y < x)
        → MatchOrdering o (p * 256 + x < q * 256 + y) (p * 256 + x ≡ q * 256 + y) (q * 256 + y < p * 256 + x)
    same Less e h = omega arith
    same Equal e h = omega arith
    same Greater e h = omega arith

    by : (o : Ordering) → MatchOrdering o (p < q) (p ≡ q) (q < p) → nat_cmp (p * 256 + x) (q * 256 + y) ≡ ordering_then o (nat_cmp x y)
    by Less h = sym (nat_cmp_is (p * 256 + x) (q * 256 + y) Less (omega arith))
    by Equal h = sym (nat_cmp_is (p * 256 + x) (q * 256 + y) (nat_cmp x y) (same (nat_cmp x y) h (ranks x y)))
    by Greater h = sym (nat_cmp_is (p * 256 + x) (q * 256 + y) Greater (omega arith))

then-assoc : (a b c : Ordering) → ordering_then a (ordering_then b c) ≡ ordering_then (ordering_then a b) c
then-assoc Less b c = refl
then-assoc Equal b c = refl
then-assoc Greater b c = refl

words : (n p q : ℕ) (xs ys : List ℕ) → n ≤ length xs → n ≤ length ys → ((i : ℕ) → get_or xs i 0 < 256) → ((i : ℕ) → get_or ys i 0 < 256)
    → ordering_then (nat_cmp p q) (key_cmp xs ys)
    ≡ ordering_then (nat_cmp (horner p (take n xs)) (horner q (take n ys))) (key_cmp (drop n xs) (drop n ys))
words zero p q xs ys l m a b = refl
words (suc n) p q [] ys l m a b = absurd (omega arith)
words (suc n) p q (x ∷ xs) [] l m a b = absurd (omega arith)
words (suc n) p q (x ∷ xs) (y ∷ ys) l m a b =
    then-assoc (nat_cmp p q) (nat_cmp x y) (key_cmp xs ys)
    ∙ ap (λ o. ordering_then o (key_cmp xs ys)) (sym (step p q x y (a 0) (b 0)))
    ∙ words n (p * 256 + x) (q * 256 + y) xs ys (omega arith) (omega arith) (λ i. a (suc i)) (λ i. b (suc i))

eight : (xs : List ℕ) → 8 ≤ length xs → from_be_bytes w64 (take 8 xs) ≡ horner 0 (take 8 xs)
eight [] l = absurd (omega arith)
eight (x0 ∷ []) l = absurd (omega arith)
eight (x0 ∷ x1 ∷ []) l = absurd (omega arith)
eight (x0 ∷ x1 ∷ x2 ∷ []) l = absurd (omega arith)
eight (x0 ∷ x1 ∷ x2 ∷ x3 ∷ []) l = absurd (omega arith)
eight (x0 ∷ x1 ∷ x2 ∷ x3 ∷ x4 ∷ []) l = absurd (omega arith)
eight (x0 ∷ x1 ∷ x2 ∷ x3 ∷ x4 ∷ x5 ∷ []) l = absurd (omega arith)
eight (x0 ∷ x1 ∷ x2 ∷ x3 ∷ x4 ∷ x5 ∷ x6 ∷ []) l = absurd (omega arith)
eight (x0 ∷ x1 ∷ x2 ∷ x3 ∷ x4 ∷ x5 ∷ x6 ∷ x7 ∷ xs) l = omega arith

pub word-order : (xs ys : List ℕ) → 8 ≤ length xs → 8 ≤ length ys → ((i : ℕ) → get_or xs i 0 < 256) → ((i : ℕ) → get_or ys i 0 < 256)
    → key_cmp xs ys
    ≡ ordering_then (nat_cmp (from_be_bytes w64 (take 8 xs)) (from_be_bytes w64 (take 8 ys))) (key_cmp (drop 8 xs) (drop 8 ys))
word-order xs ys l m a b =
    words 8 0 0 xs ys l m a b
    ∙ ap (λ n. ordering_then (nat_cmp n (horner 0 (take 8 ys))) (key_cmp (drop 8 xs) (drop 8 ys))) (sym (eight xs l))
    ∙ ap (λ n. ordering_then (nat_cmp (from_be_bytes w64 (take 8 xs)) n) (key_cmp (drop 8 xs) (drop 8 ys))) (sym (eight ys m))

-- the words decide where they differ
pub words-decide : (o p : Ordering) → is_eq o ≡ false → o ≡ ordering_then o p
words-decide Less p e = refl
words-decide Equal p e = cc
words-decide Greater p e = refl

pub words-same : (o p : Ordering) → is_eq o ≡ true → p ≡ ordering_then o p
words-same Less p e = cc
words-same Equal p e = refl
words-same Greater p e = cc
