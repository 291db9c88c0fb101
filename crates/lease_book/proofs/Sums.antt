-- Counts, and the earliest lease, of two lists together.
use Rattle.std.proofs.Common.{◌≡◌, ◌⊎◌, inl, inr, ℕ, ◌+◌, ◌<◌, ◌≤◌, ℤ, pos, ◌<ℤ◌, ◌≤ℤ◌, Bool, true, false, true≢false, cond, ◌||◌, ◌&&◌}
use Rattle.std.proofs.Common.{eqb, ltb, List, [], ◌∷◌, ◌++◌, length, refl, sym, ap, ◌∙◌, Option, None, Some, arith, length-append, eq-eqb}
use Rattle.std.specs.Prelude.{int_lt}
use Rattle.std.proofs.lemmas.Int.{ints, by_lt_z}
use Rattle.lease_book.proofs.Order.{int_lt-true, int_lt-false}
use Rattle.std.proofs.lemmas.Bool.{cases_lt, lt-ltb, le-ltb, ne_eqb}
use Rattle.kv_model.specs.Leases.{Lease, sooner}
use Rattle.lease_book.specs.Entries.{positives, earliest, first_of}

pub length-sides : (l : List Lease) (x : Lease) (r : List Lease) → length (l ++ x ∷ r) ≡ length l + length r + 1
length-sides l x r = omega (arith, length-append l (x ∷ r))

pub positives-append : (xs ys : List Lease) → positives (xs ++ ys) ≡ positives xs + positives ys
positives-append [] ys = omega arith
positives-append (x ∷ xs) ys = omega (arith, positives-append xs ys)

pub positives_few : (ls : List Lease) → positives ls ≤ length ls
positives_few [] = omega arith
positives_few (l ∷ ls) = counted (int_lt (pos 0) l.id) (positives_few ls)
  where
    counted : (b : Bool) → positives ls ≤ length ls → cond b 1 0 + positives ls ≤ length (l ∷ ls)
    counted true h = omega arith
    counted false h = omega arith

-- ---- the order of expiry

abbrev pub is_sooner : Lease → Lease → Bool
is_sooner l m = ltb l.deadline m.deadline || (eqb l.deadline m.deadline && int_lt l.id m.id)

abbrev IsSooner : Lease → Lease → Type 0
IsSooner l m = (l.deadline < m.deadline) ⊎ ((l.deadline ≡ m.deadline) × (l.id <ℤ m.id))

abbrev IsLater : Lease → Lease → Type 0
IsLater l m = (m.deadline < l.deadline) ⊎ ((l.deadline ≡ m.deadline) × (m.id ≤ℤ l.id))

in_order : (l m : Lease) → IsSooner l m ⊎ IsLater l m
in_order l m = by_deadline (cases_lt l.deadline m.deadline) (cases_lt m.deadline l.deadline)
  where
    by_deadline : (l.deadline < m.deadline) ⊎ (m.deadline ≤ l.deadline) → (m.deadline < l.deadline) ⊎ (l.deadline ≤ m.deadline)
        → IsSooner l m ⊎ IsLater l m
    by_deadline (inl h) k = inl (inl h)
    by_deadline (inr h) (inl k) = inr (inl k)
    by_deadline (inr h) (inr k) = by_lt_z l.id m.id (λ i. inl (inr (omega arith, i))) (λ i. inr (inr (omega arith, i)))

yes_sooner : (l m : Lease) → IsSooner l m → is_sooner l m ≡ true
yes_sooner l m (inl h) = rw (lt-ltb l.deadline m.deadline h)
yes_sooner l m (inr h) = rw (le-ltb l.deadline m.deadline (omega arith), eq-eqb l.deadline m.deadline h.0, int_lt-true l.id m.id h.1)

no_sooner : (l m : Lease) → IsLater l m → is_sooner l m ≡ false
no_sooner l m (inl h) = rw (le-ltb l.deadline m.deadline (omega arith), ne_eqb l.deadline m.deadline (omega arith))
no_sooner l m (inr h) = rw (le-ltb l.deadline m.deadline (omega arith), eq-eqb l.deadline m.deadline h.0, int_lt-false l.id m.id h.1)

sooner_yes : (l m : Lease) → is_sooner l m ≡ true → IsSooner l m
sooner_yes l m h = from (in_order l m)
  where
    from : IsSooner l m ⊎ IsLater l m → IsSooner l m
    from (inl k) = k
    from (inr k) = absurd (true≢false (sym h ∙ no_sooner l m k))

sooner_no : (l m : Lease) → is_sooner l m ≡ false → IsLater l m
sooner_no l m h = from (in_order l m)
  where
    from : IsSooner l m ⊎ IsLater l m → IsLater l m
    from (inl k) = absurd (true≢false (sym (yes_sooner l m k) ∙ h))
    from (inr k) = k

sooner_trans : (l m n : Lease) → is_sooner l m ≡ true → is_sooner m n ≡ true → is_sooner l n ≡ true
sooner_trans l m n h k = yes_sooner l n (chain (sooner_yes l m h) (sooner_yes m n k))
  where
    chain : IsSooner l m → IsSooner m n → IsSooner l n
    chain (inl h) (inl k) = inl (omega arith)
    chain (inl h) (inr k) = inl (omega arith)
    chain (inr h) (inl k) = inl (omega arith)
    chain (inr h) (inr k) = inr (omega arith, omega (arith, ints))

later_trans : (l m n : Lease) → is_sooner l m ≡ false → is_sooner m n ≡ false → is_sooner l n ≡ false
later_trans l m n h k = no_sooner l n (chain (sooner_no l m h) (sooner_no m n k))
  where
    chain : IsLater l m → IsLater m n → IsLater l n
    chain (inl h) (inl k) = inl (omega arith)
    chain (inl h) (inr k) = inl (omega arith)
    chain (inr h) (inl k) = inl (omega arith)
    chain (inr h) (inr k) = inr (omega arith, omega (arith, ints))

chosen : (l m : Lease) (b : Bool) → cond b (Some l) (Some m) ≡ first_of (cond b (Some l) (Some m)) None
chosen l m true = refl
chosen l m false = refl

sooner-first_of : (l : Lease) (o p : Option Lease) → sooner l (first_of o p) ≡ first_of (sooner l o) p
sooner-first_of l None p = refl
sooner-first_of l (Some m) None = chosen l m (is_sooner l m)
sooner-first_of l (Some m) (Some n) = three (is_sooner m n) (is_sooner l m) refl refl
  where
    three : (p q : Bool) → p ≡ is_sooner m n → q ≡ is_sooner l m
        → sooner l (cond p (Some m) (Some n)) ≡ first_of (cond q (Some l) (Some m)) (Some n)
    three true true ep eq = rw (← eq, sooner_trans l m n (sym eq) (sym ep))
    three true false ep eq = rw (← eq, ← ep)
    three false true ep eq = refl
    three false false ep eq = rw (later_trans l m n (sym eq) (sym ep), ← ep)

pub earliest-append : (xs ys : List Lease) → earliest (xs ++ ys) ≡ first_of (earliest xs) (earliest ys)
earliest-append [] ys = refl
earliest-append (x ∷ xs) ys = ap (sooner x) (earliest-append xs ys) ∙ sooner-first_of x (earliest xs) (earliest ys)
