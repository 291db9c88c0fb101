use Rattle.std.proofs.Common.{◌≡◌, ◌≤◌, length, ℕ, ◌+◌, ◌-◌, ◌*◌, ◌<◌, ◌^◌, true, false, List, get_or, take, arith, suc, sym, ◌∙◌, ap}
use Rattle.std.specs.Char.{is_ascii_digit, digit_value}
use Rattle.std.specs.List.{list_all}
use Rattle.std.proofs.Math.Nat.{pow-suc, pow-le-pow_right}
use Rattle.std.proofs.lemmas.Bool.{and_from}
use Rattle.std.proofs.lemmas.Bool.Decides.{nat_tests}
use Rattle.std.proofs.lemmas.Int.Digits.{digits_value_more}
use Rattle.std.proofs.lemmas.List.Folds.{list_all_more}
use Rattle.http_head.proofs.length.number_of.Goals as goal

-- what fewer than 18 digits write
below : (n i : ℕ) → n < 10 ^ i → i < 18 → n < 10 ^ 17
below n i h k = omega (arith, h, pow-le-pow_right {n = 10} (omega arith) {i = i} {j = 17} (omega (arith, k)))

next : (n i d : ℕ) → n < 10 ^ i → d < 10 → n * 10 + d < 10 ^ (i + 1)
next n i d h k =
    let step : 10 ^ (i + 1) ≡ 10 ^ i * 10 = ap (λ j. 10 ^ j) (omega arith) ∙ pow-suc 10 i in
    omega (arith, h, k, step)

digit_is : (b : ℕ) → is_ascii_digit b ≡ true → (digit_value b ≡ b - 48) × (b - 48 < 10)
digit_is b h = (grind (arith, nat_tests, h), grind (arith, nat_tests, h))

pub overflow_mul-number : goal.overflow_mul-number
overflow_mul-number c = omega (arith, below _ _ c.loop-digit.invariant.small (omega (arith, c.loop-digit-test.true, c.requires)))

pub overflow_add-number : goal.overflow_add-number
overflow_add-number c =
    let digit = digit_is (get_or c.args.digits.now c.loop-digit.digit-index 0) (sym c.is_ascii_digit.ensures.value ∙ c.if-not-is_ascii_digit.false) in
    omega (arith, below _ _ c.loop-digit.invariant.small (omega (arith, c.loop-digit-test.true, c.requires)), digit.1, c.from.ensures)

pub loop-digit-preserved : goal.loop-digit-preserved
loop-digit-preserved c =
    let is : is_ascii_digit (get_or c.args.digits.now c.loop-digit.digit-index 0) ≡ true = sym c.is_ascii_digit.ensures.value ∙ c.if-not-is_ascii_digit.false in
    let digit = digit_is (get_or c.args.digits.now c.loop-digit.digit-index 0) is in record {
      value = omega (arith, digits_value_more 10 c.args.digits.now _ c.loop-digit-test.true, c.from.ensures, digit.0, c.loop-digit.invariant.value);
      digits = list_all_more is_ascii_digit c.args.digits.now c.loop-digit.digit-index 0 c.loop-digit-test.true ∙ and_from _ _ c.loop-digit.invariant.digits is;
      small = next _ _ _ c.loop-digit.invariant.small (omega (arith, digit.1, c.from.ensures));
    }
