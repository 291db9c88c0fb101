-- The digits of a number: what `parse` answers is what a script's definition reads.
use Rattle.std.proofs.Common.{◌≡◌, ℕ, ◌^◌, ◌<◌, ◌≢◌, List, get_or, Bool, true, false, cond, not, ◌&&◌, nat_lt, None, Some, option_and_then, Result, refl, sym, ap, ◌∙◌, arith}
use Rattle.std.specs.Bool.{Decides}
use Rattle.std.specs.Char.{is_ascii_digit}
use Rattle.std.specs.List.{list_all}
use Rattle.std.specs.Result.{result_ok}
use Rattle.std.specs.Str.{IsUtf8}
use Rattle.std.specs.Str.Parse.{ParsesUnsigned}
use Rattle.std.proofs.lemmas.Bool.Decides.{Decides-and, Decides-like, nat_tests}
use Rattle.std.proofs.lemmas.Fmt.{IsAscii-from_digits}
use Rattle.std.proofs.lemmas.Str.{IsUtf8-from_ascii}
use Rattle.std.proofs.lemmas.Str.Parse.{parse_plain}
use Rattle.kv_model.specs.Lists.{is_empty}
use Rattle.gateway_read.proofs.Integers.{read_on, own, chosen, some_digit}
use Rattle.commands.specs.Script.{if_unsigned_64, number_of}

-- digits, and then a number that fits
reshaped : (b : Bool) (test : ℕ → Bool) (n : ℕ) → option_and_then (λ m. cond (test m) (Some m) None) (cond b (Some n) None) ≡ cond (b && test n) (Some n) None
reshaped true test n = refl
reshaped false test n = refl

fits : (n : ℕ) → Decides (nat_lt n (2 ^ 64)) (n < 2 ^ 64)
fits n = (λ h. grind (arith, nat_tests), λ h. grind (arith, nat_tests))

pub parsed : {E : Type 0} (r : Result ℕ E) (bs : List ℕ) → ParsesUnsigned 64 10 bs r → get_or bs 0 0 ≢ 43 → result_ok r ≡ number_of bs
parsed r bs h plus =
    let both = Decides-and _ _ (some_digit bs) (fits (read_on 0 bs)) in
    chosen r _ _ (read_on 0 bs) (Decides-like _ (λ p. (p.0.0, p.0.1, p.1)) (λ p. ((p.0, p.1), p.2)) both) (parse_plain own 64 bs r h plus)
    ∙ sym (reshaped (not (is_empty bs) && list_all is_ascii_digit bs) (λ n. nat_lt n (2 ^ 64)) (read_on 0 bs))

none_read : (b : Bool) (n : ℕ) → option_and_then if_unsigned_64 (cond (b && false) (Some n) None) ≡ None
none_read true n = refl
none_read false n = refl

some_other : (bs : List ℕ) (b : Bool) → list_all is_ascii_digit bs ≡ b → (IsUtf8 bs → ⊥) → number_of bs ≡ None
some_other bs true e bad = absurd (bad (IsUtf8-from_ascii bs (IsAscii-from_digits bs (own.to bs e))))
some_other bs false e bad = ap (λ b. option_and_then if_unsigned_64 (cond (not (is_empty bs) && b) (Some (read_on 0 bs)) None)) e ∙ none_read (not (is_empty bs)) (read_on 0 bs)

-- bytes that are not UTF-8 are not digits alone
pub not_digits : (bs : List ℕ) → (IsUtf8 bs → ⊥) → number_of bs ≡ None
not_digits bs bad = some_other bs (list_all is_ascii_digit bs) refl bad
