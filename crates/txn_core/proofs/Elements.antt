-- An element of a list, and what stands behind it.
use Rattle.std.proofs.Common.{◌≡◌, ℕ, ◌+◌, ◌<◌, List, ◌∷◌, length, drop, get_or, Bool, true, ◌||◌, sym, ◌∙◌, ap, add-one, drop-cons}
use Rattle.std.specs.List.{list_any}

-- the element of a list at an index
pub record At {X : Type 0} (xs : List X) : Type 0 where
  pub index : ℕ
  pub value : X
  pub inside : index < length xs
  pub is : value ≡ get_or xs index value

pub from-here : {X : Type 0} (xs : List X) (a : At xs) → drop a.index xs ≡ a.value ∷ drop (a.index + 1) xs
from-here xs a = drop-cons xs a.index a.value a.inside ∙ (λ i. sym a.is i ∷ drop (sym (add-one a.index) i) xs)

pub any-here : {X : Type 0} (p : X → Bool) (xs : List X) (a : At xs) → p a.value ≡ true → true ≡ list_any p (drop a.index xs)
any-here p xs a holds = sym (ap (list_any p) (from-here xs a) ∙ ap (λ b. b || list_any p (drop (a.index + 1) xs)) holds)
