-- Versions that stand behind places that hold nothing.
use Rattle.std.proofs.Common.{◌≡◌, ℕ, zero, suc, ◌+◌, List, [], ◌∷◌, drop, refl, sym, ◌∙◌, ap, arith}
use Rattle.std.specs.List.{remove}

module _ {X : Type 0} where
  none-gone : (n : ℕ) → remove {X = X} [] n ≡ []
  none-gone zero = refl
  none-gone (suc n) = refl

  -- another one goes
  pub other-gone : (g i : ℕ) (xs : List X) → drop g (remove xs (g + i)) ≡ remove (drop g xs) i
  other-gone zero i xs = let all : 0 + i ≡ i = omega arith in ap (remove xs) all
  other-gone (suc g) i [] = ap (drop (suc g)) (none-gone (suc g + i)) ∙ sym (none-gone i)
  other-gone (suc g) i (y ∷ ys) =
      let less : suc g + i ≡ suc (g + i) = omega arith in
      ap (λ n. drop (suc g) (remove (y ∷ ys) n)) less ∙ other-gone g i ys
