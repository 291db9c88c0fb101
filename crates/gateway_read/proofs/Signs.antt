-- The symbols of a base64 text, and those of the same text in the standard alphabet.
use Rattle.std.proofs.Common.{◌≡◌, ℕ, zero, suc, ◌<◌, List, [], ◌∷◌, length, get_or, map, Option, None, Some}
use Rattle.std.proofs.Common.{is_some, Bool, true, false, cond, eqb, refl, sym, arith, ◌∙◌}
use Rattle.std.proofs.lemmas.Bool.Decides.{nat_tests}
use Rattle.std.specs.List.{list_any}
use Rattle.std.proofs.lemmas.Bool.{or_parts, or_right, false_from_ne_true}
use Rattle.memchr.specs.Find.{IsFirstByte, IsLastByte}
use Rattle.base64.specs.Engines.{standard, standard_no_pad}
use Rattle.base64.specs.GeneralPurpose.{decoded_of}
use Rattle.kv_model.specs.Requests.{decoded, standard_symbol}
use Rattle.gateway_read.specs.Signs.{is_url, is_padding}

-- ---- a byte that a search looks for

any_at : (p : ℕ → Bool) (xs : List ℕ) (k : ℕ) → k < length xs → p (get_or xs k 0) ≡ true → list_any p xs ≡ true
any_at p [] k h is = absurd (omega (arith, h))
any_at p (x ∷ xs) zero h is = rw is refl
any_at p (x ∷ xs) (suc k) h is = or_right (p x) _ (any_at p xs k (omega (arith, h)) is)

any_nowhere : (p : ℕ → Bool) (xs : List ℕ) → ((k : ℕ) → k < length xs → p (get_or xs k 0) ≡ true → ⊥) → list_any p xs ≡ false
any_nowhere p [] h = refl
any_nowhere p (x ∷ xs) h = rw (false_from_ne_true (p x) (h 0 (omega arith)), any_nowhere p xs (λ k below is. h (suc k) (omega (arith, below)) is)) refl

pub some-first : (p : ℕ → Bool) (xs : List ℕ) (r : Option ℕ) → IsFirstByte p xs r → is_some r ≡ list_any p xs
some-first p xs None h = sym (any_nowhere p xs (λ k below is. h k (omega arith) below is))
some-first p xs (Some k) h = sym (any_at p xs k h.0.high h.1)

pub some-last : (p : ℕ → Bool) (xs : List ℕ) (r : Option ℕ) → IsLastByte p xs r → is_some r ≡ list_any p xs
some-last p xs None h = sym (any_nowhere p xs (λ k below is. h k (omega arith) below is))
some-last p xs (Some k) h = sym (any_at p xs k h.0.high h.1)

-- ---- the symbols of a text

-- two tests of a number, as a symbol's are
with_tests : (a b : Bool) (x : ℕ) → eqb x 45 ≡ a → eqb x 95 ≡ b → is_padding (cond a 43 (cond b 47 x)) ≡ is_padding x
with_tests true b x dash line = sym other
  where
    other : is_padding x ≡ false
    other = grind (arith, nat_tests)
with_tests false true x dash line = sym other
  where
    other : is_padding x ≡ false
    other = grind (arith, nat_tests)
with_tests false false x dash line = refl

padding_of : (x : ℕ) → is_padding (standard_symbol x) ≡ is_padding x
padding_of x = with_tests (eqb x 45) (eqb x 95) x refl refl

pub padding-standard : (s : List ℕ) → list_any is_padding (map standard_symbol s) ≡ list_any is_padding s
padding-standard [] = refl
padding-standard (x ∷ s) = rw (padding_of x, padding-standard s) refl

plain_symbol : (x : ℕ) → is_url x ≡ false → standard_symbol x ≡ x
plain_symbol x is = let tests = or_parts (eqb x 45) (eqb x 95) is in rw (tests.0, tests.1) refl

pub plain : (s : List ℕ) → list_any is_url s ≡ false → map standard_symbol s ≡ s
plain [] is = refl
plain (x ∷ s) is = let parts = or_parts (is_url x) (list_any is_url s) is in rw (plain_symbol x parts.0, plain s parts.1) refl

by_engine : (s : List ℕ) → decoded s ≡ decoded_of (cond (list_any is_padding (map standard_symbol s)) standard standard_no_pad)
    (map standard_symbol s)
unfolding decoded decoded_of
by_engine s = refl

-- what a text stands for, by whether it has padding, and by its symbols in the standard alphabet
pub decoded-by : (s t : List ℕ) (padding : Bool) → padding ≡ list_any is_padding s → t ≡ map standard_symbol s
    → decoded s ≡ decoded_of (cond padding standard standard_no_pad) t
decoded-by s t padding has is = by_engine s ∙ rw (has, is, padding-standard s) refl
