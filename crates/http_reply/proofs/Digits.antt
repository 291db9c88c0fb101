-- The digits of a number in base 16, laid out from the last to the first.
use Rattle.std.proofs.Common.{rules, arith, ◌≡◌, ◌≤◌, ◌<◌, ℕ, zero, suc, ◌+◌, ◌*◌, ◌/◌, ◌%◌, ◌^◌, List, [], ◌∷◌, true, false, Bool, nat_eq, cond, refl, ap, sym, subst, ◌∙◌, ◌-◌, length, drop, take, set, pow-suc}
use Rattle.std.proofs.lemmas.Bool.Decides.{nat_tests}
use Rattle.std.proofs.lemmas.List.{drop-set, length-set, length-drop, take_all}
use Rattle.std.specs.Fmt.{digit_glyph, digits, digits_onto}

-- the last k digits of n at most, and then those that stand already
unfoldable pub digits_before : ℕ → ℕ → List ℕ → List ℕ
digits_before k n done = digits_onto k 16 false n done

pub all_before : (n : ℕ) → digits 16 false n ≡ digits_before 64 n []
unfolding digits digits_before
all_before n = refl

-- a number of more than one digit
pub digit_more : (k n : ℕ) (done : List ℕ) → 16 ≤ n → digits_before (suc k) n done ≡ digits_before k (n / 16) (digit_glyph false (n % 16) ∷ done)
unfolding digits_before
digit_more k n done h = by (nat_eq (n / 16) 0) refl
  where
    by : (b : Bool) → nat_eq (n / 16) 0 ≡ b → cond b (digit_glyph false (n % 16) ∷ done) (digits_onto k 16 false (n / 16) (digit_glyph false (n % 16) ∷ done)) ≡ digits_onto k 16 false (n / 16) (digit_glyph false (n % 16) ∷ done)
    by true e = absurd (grind (arith, nat_tests, e, h))
    by false e = refl

pub digit_last : (k n : ℕ) (done : List ℕ) → n < 16 → digits_before (suc k) n done ≡ digit_glyph false n ∷ done
unfolding digits_before
digit_last k n done h = by (nat_eq (n / 16) 0) refl
  where
    small : n % 16 ≡ n
    small = omega (arith, h)

    by : (b : Bool) → nat_eq (n / 16) 0 ≡ b → cond b (digit_glyph false (n % 16) ∷ done) (digits_onto k 16 false (n / 16) (digit_glyph false (n % 16) ∷ done)) ≡ digit_glyph false n ∷ done
    by true e = ap (λ d. digit_glyph false d ∷ done) small
    by false e = absurd (grind (arith, nat_tests, e, h))

-- one digit less
pub digit_room : (at n : ℕ) → 16 ≤ n → n < 16 * 16 ^ at → (1 ≤ at) × (n / 16 < 16 * 16 ^ (at - 1))
digit_room zero n h l = absurd (omega (arith, h, l))
digit_room (suc at) n h l =
    let back : at ≡ suc at - 1 = omega arith in
    let less : n / 16 < 16 * 16 ^ at = omega (arith, l, pow-suc 16 at) in
    (omega arith, subst (λ k. n / 16 < 16 * 16 ^ k) back less)

-- a digit more stands
pub digit_before : (at number rest : ℕ) (buffer : List ℕ) (glyph : ℕ) → 16 ≤ rest → at ≤ 15 → length buffer ≡ 16 → rest < 16 * 16 ^ at
    → digits 16 false number ≡ digits_before (49 + at) rest (drop (at + 1) buffer) → glyph ≡ digit_glyph false (rest % 16)
    → (at - 1 ≤ 15) × (length (set buffer at glyph) ≡ 16) × (rest / 16 < 16 * 16 ^ (at - 1))
    × (digits 16 false number ≡ digits_before (49 + (at - 1)) (rest / 16) (drop (at - 1 + 1) (set buffer at glyph)))
digit_before at number rest buffer glyph more most long fits before is =
    let room = digit_room at rest more fits in
    let back : at - 1 + 1 ≡ at = omega (arith, room.0) in
    let left : 49 + at ≡ suc (49 + (at - 1)) = omega (arith, room.0) in
    let laid : drop (at - 1 + 1) (set buffer at glyph) ≡ digit_glyph false (rest % 16) ∷ drop (at + 1) buffer =
    ap (λ k. drop k (set buffer at glyph)) back ∙ drop-set buffer at glyph (omega (arith, most, long)) ∙ ap (λ d. d ∷ drop (at + 1) buffer) is in (
      omega (arith, most),
      length-set buffer at glyph ∙ long,
      room.1,
      before ∙ ap (λ k. digits_before k rest (drop (at + 1) buffer)) left ∙ digit_more (49 + (at - 1)) rest (drop (at + 1) buffer) more ∙ ap (digits_before (49 + (at - 1)) (rest / 16)) (sym laid),
    )

-- all stand
pub digits_stand : (at number rest : ℕ) (buffer : List ℕ) (glyph : ℕ) → rest < 16 → at ≤ 15 → length buffer ≡ 16
    → digits 16 false number ≡ digits_before (49 + at) rest (drop (at + 1) buffer) → glyph ≡ digit_glyph false rest
    → take (16 - at) (drop at (set buffer at glyph)) ≡ digits 16 false number
digits_stand at number rest buffer glyph small most long before is =
    take_all (16 - at) (drop at (set buffer at glyph)) (omega (arith, most, long, length-set buffer at glyph, length-drop at (set buffer at glyph)))
    ∙ drop-set buffer at glyph (omega (arith, most, long)) ∙ ap (λ d. d ∷ drop (at + 1) buffer) is
    ∙ sym (before ∙ ap (λ k. digits_before k rest (drop (at + 1) buffer)) (omega arith) ∙ digit_last (48 + at) rest (drop (at + 1) buffer) small)
