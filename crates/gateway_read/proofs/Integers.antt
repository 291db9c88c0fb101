-- The text of an integer: what `parse` answers is what the model reads.
use Rattle.std.proofs.Common.{◌≡◌, ℕ, ◌+◌, ◌-◌, ◌*◌, ◌^◌, ◌<◌, ◌≤◌, ◌≢◌, ℤ, pos, neg_ℤ, List, [], ◌∷◌, length}
use Rattle.std.proofs.Common.{get_or, Bool, true, false, cond, not, ◌&&◌, eqb, None, Some, option_map}
use Rattle.std.proofs.Common.{option_and_then, Result, Ok, Err, refl, sym, ap, ◌∙◌, arith, rules, true≢false}
use Rattle.std.specs.Prelude.{fold, int_le, int_lt}
use Rattle.std.specs.Bool.{Decides}
use Rattle.std.specs.Char.{is_ascii_digit}
use Rattle.std.specs.Int.{w64}
use Rattle.std.specs.List.{list_all}
use Rattle.std.specs.Result.{OkIff, result_ok}
use Rattle.std.specs.Str.Parse.{ParsesSigned}
use Rattle.std.proofs.lemmas.Bool.Decides.{Decides-and, Decides-like, nat_tests}
use Rattle.std.proofs.lemmas.Int.{ints}
use Rattle.std.proofs.lemmas.Str.Parse.{IsNumeralModel, numerals_by_fold, parse_signed_minus, parse_signed_plain}
use Rattle.kv_model.specs.Lists.{is_empty}
use Rattle.kv_model.specs.Requests.{digits_value, signed_value, if_signed_64}

abbrev pub AllDigits : List ℕ → Type 0
AllDigits ds = list_all is_ascii_digit ds ≡ true

abbrev pub read_on : ℕ → List ℕ → ℕ
read_on = fold (λ n d. n * 10 + (d - 48))

pub own : IsNumeralModel AllDigits (read_on 0)
own = numerals_by_fold _ (search rules) read_on (search rules)

-- a result that is there where the test holds
pub chosen : {X E : Type 0} (r : Result X E) (b : Bool) (P : Type 0) (z : X) → Decides b P → OkIff r P z
    → result_ok r ≡ cond b (Some z) None
chosen (Ok x) true P z d h = ap Some h.1
chosen (Ok x) false P z d h = absurd (true≢false (sym (d.1 h.0)))
chosen (Err e) true P z d h = absurd (h (d.0 refl))
chosen (Err e) false P z d h = refl

-- digits, and then a number that fits
reshaped : (b : Bool) (test : ℤ → Bool) (g : ℕ → ℤ) (n : ℕ)
    → option_and_then (λ z. cond (test z) (Some z) None) (option_map g (cond b (Some n) None)) ≡ cond (b && test (g n)) (Some (g n)) None
reshaped true test g n = refl
reshaped false test g n = refl

pub some_digit : (ds : List ℕ) → Decides (not (is_empty ds) && list_all is_ascii_digit ds) (AllDigits ds × (0 < length ds))
some_digit [] = (λ h. absurd (true≢false (sym h)), λ h. absurd (omega (arith, h.1)))
some_digit (d ∷ ds) = (λ h. (h, omega arith), λ h. h.0)

fits_below : (n : ℕ) → Decides (int_le (neg_ℤ (pos (2 ^ 63))) (neg_ℤ (pos n)) && int_lt (neg_ℤ (pos n)) (pos (2 ^ 63))) (n ≤ 2 ^ 63)
fits_below n = (λ h. grind (arith, ints), λ h. grind (arith, ints))

fits_above : (n : ℕ) → Decides (int_le (neg_ℤ (pos (2 ^ 63))) (pos n) && int_lt (pos n) (pos (2 ^ 63))) (n < 2 ^ 63)
fits_above n = (λ h. grind (arith, ints), λ h. grind (arith, ints))

signed_digits : {E : Type 0} (r : Result ℤ E) (ds : List ℕ) (g : ℕ → ℤ) (P : Type 0)
    → Decides (int_le (neg_ℤ (pos (2 ^ 63))) (g (read_on 0 ds)) && int_lt (g (read_on 0 ds)) (pos (2 ^ 63))) P
    → OkIff r (AllDigits ds × (0 < length ds) × P) (g (read_on 0 ds))
    → result_ok r ≡ option_and_then if_signed_64 (option_map g (digits_value ds))
signed_digits r ds g P fits h =
    let both = Decides-and _ _ (some_digit ds) fits in
    chosen r _ _ (g (read_on 0 ds)) (Decides-like _ (λ p. (p.0.0, p.0.1, p.1)) (λ p. ((p.0, p.1), p.2)) both) h
    ∙ sym (reshaped (not (is_empty ds) && list_all is_ascii_digit ds) (λ z. int_le (neg_ℤ (pos (2 ^ 63))) z && int_lt z (pos (2 ^ 63))) g
    (read_on 0 ds))

first_digit : {E : Type 0} (r : Result ℤ E) (x : ℕ) (xs : List ℕ) (b : Bool) → eqb x 45 ≡ b → ParsesSigned w64 10 (x ∷ xs) r → x ≢ 43
    → result_ok r ≡ option_and_then if_signed_64
    (cond b (option_map (λ n. neg_ℤ (pos n)) (digits_value xs)) (option_map pos (digits_value (x ∷ xs))))
first_digit r x xs true is h plus = signed_digits r xs (λ n. neg_ℤ (pos n)) _ (fits_below (read_on 0 xs))
    (parse_signed_minus own w64 (x ∷ xs) r h (grind (arith, nat_tests)))
first_digit r x xs false is h plus = signed_digits r (x ∷ xs) pos _ (fits_above (read_on 0 (x ∷ xs)))
    (parse_signed_plain own w64 (x ∷ xs) r h plus (grind (arith, nat_tests)))

pub parsed : {E : Type 0} (r : Result ℤ E) (bs : List ℕ) → ParsesSigned w64 10 bs r → get_or bs 0 0 ≢ 43
    → result_ok r ≡ option_and_then if_signed_64 (signed_value bs)
parsed r [] h plus = chosen r false _ _ (λ h. absurd (true≢false (sym h)), λ h. absurd (omega (arith, h.1)))
    (parse_signed_plain own w64 [] r h plus (omega arith))
parsed r (x ∷ xs) h plus = first_digit r x xs (eqb x 45) refl h plus
