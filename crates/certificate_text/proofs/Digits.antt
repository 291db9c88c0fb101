-- Numbers in decimal digits: which text a number is read from.
use Rattle.std.proofs.Common.{◌≡◌, ℕ, ◌+◌, ◌-◌, ◌^◌, ◌<◌, ◌≤◌, ◌≢◌, zero, suc, ℤ, pos, negsuc, List, [], ◌∷◌, length, get_or, Bool, true, false, cond, not, ◌&&◌, ◌||◌, eqb, nat_eq, nat_le, nat_lt, Option, None, Some, option_map, option_and_then, Result, Ok, refl, sym, ap, subst, ◌∙◌, arith}
use Rattle.std.specs.Fmt.{decimal, signed_decimal}
use Rattle.std.specs.Int.{w64}
use Rattle.std.specs.Prelude.{FitsSigned}
use Rattle.std.specs.Result.{OkIff}
use Rattle.std.specs.Str.{IsUtf8, all_ascii_digits}
use Rattle.std.specs.Str.Parse.{ParsesUnsigned, digits_value}
use Rattle.std.proofs.lemmas.Bool.Decides.{nat_tests}
use Rattle.std.proofs.lemmas.Fmt.{IsAscii-from_digits, decimal-digits_value, digits_decimal, digits_value-decimal, decimal_nonempty, first_decimal, decimal_digit}
use Rattle.std.proofs.lemmas.Int.{ints}
use Rattle.std.proofs.lemmas.Option.{cond_some}
use Rattle.std.proofs.lemmas.Str.{IsUtf8-from_ascii}
use Rattle.std.proofs.lemmas.Str.Parse.{IsNumeralModel, numerals_by_value, tells_all_ascii_digits, not_in_digits, parse_plain, parse_gives}
use Rattle.std.proofs.lemmas.Bool.{and_parts, and_from, false_from_ne_true}
use Rattle.certificate_text.specs.Reading.{number_of, number_up_to, has_zeros_before, below_zero, lease_of}

pub own : IsNumeralModel (λ ds. all_ascii_digits ds ≡ true) (digits_value 10)
own = numerals_by_value _ tells_all_ascii_digits

-- what was read where it passes a test, and where it does not
some_unless : {A : Type 0} (b : Bool) (o : Option A) (x : A) → cond b None o ≡ Some x → (b ≡ false) × (o ≡ Some x)
some_unless true o x e = cc e
some_unless false o x e = (refl, e)

lead : (len c : ℕ) → (nat_lt 1 len && nat_eq c 48) ≡ false → 0 < len → c ≡ 48 → len ≡ 1
lead len c h some e = grind (arith, nat_tests)

-- a number is read from its digits alone
pub number_read : (most n : ℕ) (text : List ℕ) → most < 2 ^ 64 → number_of most text ≡ Some n → (text ≡ decimal n) × (n ≤ most)
unfolding number_of
number_read most n text small e =
    let plain = some_unless (has_zeros_before text) (number_up_to most text) n e in
    let filled : Bool = not (nat_eq (length text) 0) in
    let within : Bool = nat_le (digits_value 10 text) most in
    let found = cond_some (filled && all_ascii_digits text && within) (digits_value 10 text) n plain.1 in
    let tests = and_parts (filled && all_ascii_digits text) within found.0 in
    let shape = and_parts filled (all_ascii_digits text) tests.0 in
    let some : 0 < length text = grind (arith, nat_tests, shape.0) in
    let bound : digits_value 10 text ≤ most = grind (arith, nat_tests, tests.1) in
    let back = decimal-digits_value own text shape.1 some (lead (length text) (get_or text 0 0) plain.0 some) (omega (arith, bound, small)) in
    (sym back ∙ ap decimal found.1, subst (λ m. m ≤ most) found.1 bound)

digits_of : (n : ℕ) → n < 2 ^ 64 → all_ascii_digits (decimal n) ≡ true
digits_of n h = digits_decimal own n h

no_zeros : (n : ℕ) → n < 2 ^ 64 → has_zeros_before (decimal n) ≡ false
no_zeros zero h = ap has_zeros_before (decimal_digit 0 (omega arith))
no_zeros (suc n) h =
    let first = first_decimal (suc n) (omega arith) h in
    grind (arith, nat_tests, first)

-- and is read from them
pub number_again : (most n : ℕ) → most < 2 ^ 64 → n ≤ most → number_of most (decimal n) ≡ Some n
unfolding number_of
number_again most n small bound =
    let h : n < 2 ^ 64 = omega (arith, small, bound) in
    let some = decimal_nonempty n h in
    let value = digits_value-decimal own n h in
    let filled : not (nat_eq (length (decimal n)) 0) ≡ true = grind (arith, nat_tests, some) in
    let within : nat_le (digits_value 10 (decimal n)) most ≡ true = grind (arith, nat_tests, value, bound) in
    ap (λ b. cond b None (number_up_to most (decimal n))) (no_zeros n h)
    ∙ ap (λ b. cond b (Some (digits_value 10 (decimal n))) None) (and_from _ _ (and_from _ _ filled (digits_of n h)) within)
    ∙ ap Some value

-- ---- what `parse` answers

-- a number is there where its digits are and it fits
pub parsed : {E : Type 0} (most n : ℕ) (bs : List ℕ) (r : Result ℕ E) → ParsesUnsigned 64 10 bs r → get_or bs 0 0 ≢ 43 → r ≡ Ok n → n ≤ most
    → number_up_to most bs ≡ Some n
parsed {E} most n bs r h plus is bound =
    let found : OkIff {E = E} (Ok n) ((all_ascii_digits bs ≡ true) × (0 < length bs) × (digits_value 10 bs < 2 ^ 64)) (digits_value 10 bs) =
    subst (λ q. OkIff q ((all_ascii_digits bs ≡ true) × (0 < length bs) × (digits_value 10 bs < 2 ^ 64)) (digits_value 10 bs)) is (parse_plain own 64 bs r h plus) in
    let some = found.0.1 in
    let value = found.1 in
    let filled : not (nat_eq (length bs) 0) ≡ true = grind (arith, nat_tests, some) in
    let within : nat_le (digits_value 10 bs) most ≡ true = grind (arith, nat_tests, value, bound) in
    ap (λ b. cond b (Some (digits_value 10 bs)) None) (and_from _ _ (and_from _ _ filled found.0.0) within) ∙ ap Some (sym value)

-- and where it is above the limit, or none is there, none is read
pub parsed_none : {E : Type 0} (most : ℕ) (bs : List ℕ) (r : Result ℕ E) → most < 2 ^ 64 → ParsesUnsigned 64 10 bs r → get_or bs 0 0 ≢ 43
    → ((n : ℕ) → r ≡ Ok n → n ≤ most → ⊥) → number_up_to most bs ≡ None
parsed_none most bs r small h plus none =
    ap (λ b. cond b (Some (digits_value 10 bs)) None) (false_from_ne_true _ (λ t.
    let filled : Bool = not (nat_eq (length bs) 0) in
    let within : Bool = nat_le (digits_value 10 bs) most in
    let tests = and_parts (filled && all_ascii_digits bs) within t in
    let shape = and_parts filled (all_ascii_digits bs) tests.0 in
    let some : 0 < length bs = (let full = shape.0 in grind (arith, nat_tests, full)) in
    let bound : digits_value 10 bs ≤ most = (let fits = tests.1 in grind (arith, nat_tests, fits)) in
    none (digits_value 10 bs) (parse_gives own 64 bs r h shape.1 some (omega (arith, bound, small))) bound))

-- bytes that are not UTF-8 are not digits
pub not_digits : (most : ℕ) (bs : List ℕ) → (IsUtf8 bs → ⊥) → number_up_to most bs ≡ None
not_digits most bs bad =
    ap (λ b. cond b (Some (digits_value 10 bs)) None) (false_from_ne_true _ (λ t.
    let filled : Bool = not (nat_eq (length bs) 0) in
    let tests = and_parts (filled && all_ascii_digits bs) (nat_le (digits_value 10 bs) most) t in
    bad (IsUtf8-from_ascii bs (IsAscii-from_digits bs (own.to bs (and_parts filled (all_ascii_digits bs) tests.0).1)))))

-- ---- with a sign

below_some : (n : ℕ) (z : ℤ) → below_zero n ≡ Some z → (m : ℕ) × (n ≡ suc m) × (z ≡ negsuc m)
below_some zero z e = cc e
below_some (suc n) z e = (n, refl, cc e)

mapped : {A B : Type 0} (f : A → B) (o : Option A) (y : B) → option_map f o ≡ Some y → (x : A) × (o ≡ Some x) × (y ≡ f x)
mapped f None y e = cc e
mapped f (Some x) y e = (x, refl, cc e)

pub then_some : {A B : Type 0} (f : A → Option B) (o : Option A) (y : B) → option_and_then f o ≡ Some y → (x : A) × (o ≡ Some x) × (f x ≡ Some y)
then_some f None y e = cc e
then_some f (Some x) y e = (x, refl, e)

abbrev IsLeaseOf : List ℕ → ℤ → Type 0
IsLeaseOf text z = (text ≡ signed_decimal z) × FitsSigned w64 z

lease_by : (x : ℕ) (xs : List ℕ) (z : ℤ) (b : Bool) → eqb x 45 ≡ b
    → cond b (option_and_then below_zero (number_of (2 ^ 63) xs)) (option_map pos (number_of (2 ^ 63 - 1) (x ∷ xs))) ≡ Some z → IsLeaseOf (x ∷ xs) z
lease_by x xs z true is e =
    let found = then_some below_zero (number_of (2 ^ 63) xs) z e in
    let shape = below_some found.0 z found.2 in
    let text = number_read (2 ^ 63) found.0 xs (omega arith) found.1 in
    let minus : x ≡ 45 = grind (arith, nat_tests) in
    let digits : xs ≡ decimal (suc shape.0) = text.0 ∙ ap decimal shape.1 in
    let fits : shape.0 < 2 ^ 63 = omega (arith, text.1, shape.1) in
    subst (IsLeaseOf (x ∷ xs)) (sym shape.2) ((λ i. minus i ∷ digits i), grind (arith, ints, fits))
lease_by x xs z false is e =
    let found = mapped pos (number_of (2 ^ 63 - 1) (x ∷ xs)) z e in
    let text = number_read (2 ^ 63 - 1) found.0 (x ∷ xs) (omega arith) found.1 in
    let fits : found.0 < 2 ^ 63 = omega (arith, text.1) in
    subst (IsLeaseOf (x ∷ xs)) (sym found.2) (text.0, grind (arith, ints, fits))

pub lease_read : (text : List ℕ) (z : ℤ) → lease_of text ≡ Some z → IsLeaseOf text z
unfolding lease_of
lease_read [] z e = cc e
lease_read (x ∷ xs) z e = lease_by x xs z (eqb x 45) refl e

plain_again : (n : ℕ) (ds : List ℕ) → n < 2 ^ 63 → ds ≡ decimal n → lease_of ds ≡ Some (pos n)
unfolding lease_of
plain_again n [] h e =
    let some = decimal_nonempty n (omega (arith, h)) in
    let none : length (decimal n) ≡ 0 = ap length (sym e) in
    absurd (omega (arith, some, none))
plain_again n (x ∷ xs) h e =
    let digits : all_ascii_digits (x ∷ xs) ≡ true = subst (λ ds. all_ascii_digits ds ≡ true) (sym e) (digits_of n (omega (arith, h))) in
    let other : x ≢ 45 = not_in_digits own (x ∷ xs) 45 digits (λ r. omega (arith, r)) 0 (omega arith) in
    let test : eqb x 45 ≡ false = grind (arith, nat_tests) in
    ap (λ b. cond b (option_and_then below_zero (number_of (2 ^ 63) xs)) (option_map pos (number_of (2 ^ 63 - 1) (x ∷ xs)))) test
    ∙ ap (λ ds. option_map pos (number_of (2 ^ 63 - 1) ds)) e ∙ ap (option_map pos) (number_again (2 ^ 63 - 1) n (omega arith) (omega (arith, h)))

pub lease_again : (z : ℤ) → FitsSigned w64 z → lease_of (signed_decimal z) ≡ Some z
unfolding lease_of
lease_again (pos n) h = plain_again n (decimal n) (grind (arith, ints, h)) refl
lease_again (negsuc n) h =
    let fits : suc n ≤ 2 ^ 63 = grind (arith, ints, h) in
    ap (option_and_then below_zero) (number_again (2 ^ 63) (suc n) (omega arith) fits)
