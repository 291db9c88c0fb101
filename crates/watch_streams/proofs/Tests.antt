-- What is left of a list.
use Rattle.std.proofs.Common.{◌≡◌, ℕ, ◌-◌, List, [], ◌∷◌, ◌++◌, length, take, drop, nat_eq, Bool, true, refl, ◌∙◌, ap, arith}
use Rattle.std.proofs.lemmas.Bool.Decides.{nat_tests}
use Rattle.std.proofs.lemmas.List.{take_rest}
use Rattle.kv_model.specs.Lists.{is_empty}

empty_test : (xs : List ℕ) → nat_eq (length xs) 0 ≡ is_empty xs
empty_test [] = refl
empty_test (x ∷ xs) = grind (arith, nat_tests)

pub tail_empty : (n : ℕ) (xs : List ℕ) → nat_eq (length (take (length xs - n) (drop n xs))) 0 ≡ is_empty (drop n xs)
tail_empty n xs = ap (λ (ys : List ℕ). nat_eq (length ys) 0) (take_rest xs n) ∙ empty_test (drop n xs)

pub nil_when_empty : (xs : List ℕ) → is_empty xs ≡ true → xs ≡ []
nil_when_empty [] e = refl
nil_when_empty (x ∷ xs) e = grind (arith, e)
