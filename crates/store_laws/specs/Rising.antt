-- Lists that rise by a revision of their elements, as versions do, and revisions themselves.
use Rattle.std.specs.Prelude.{◌≡◌, ℕ, zero, suc, List, [], ◌∷◌, Bool, true, false, ◌==◌, ◌&&◌, Option, None, Some}
use Rattle.std.specs.Prelude.{if◌then◌else◌, ⊤}
use Rattle.std.specs.List.{AllByRecursion}
use Rattle.kv_model.specs.declared.version.Rev.{Rev}
use Rattle.kv_model.specs.Lists.{last_that}
use Rattle.kv_model.specs.History.{rev_lt}

-- the place stands behind every element
abbrev pub IsBehind : {X : Type 0} → (X → Rev) → Rev → List X → Type 0
IsBehind rev p xs = AllByRecursion (λ x. rev_lt (rev x) p ≡ true) xs

-- each element stands before those after it
abbrev pub IsRising : {X : Type 0} → (X → Rev) → List X → Type 0
IsRising rev [] = ⊤
IsRising rev (x ∷ xs) = AllByRecursion (λ y. rev_lt (rev x) (rev y) ≡ true) xs × IsRising rev xs

-- the last one, which where they rise is the newest
abbrev pub newest : {X : Type 0} → List X → Option X
newest xs = last_that (λ _. true) xs

-- it is of this main revision
abbrev pub is_of : {X : Type 0} → (X → Rev) → ℕ → Option X → Bool
is_of rev main None = false
is_of rev main (Some x) = (rev x).main == main

-- how many stand before the first one that fails the test
abbrev pub count_while : {X : Type 0} → (X → Bool) → List X → ℕ
count_while t [] = zero
count_while t (x ∷ xs) = if t x then suc (count_while t xs) else zero

-- a revision is this one
abbrev pub is_rev : Rev → Rev → Bool
is_rev p q = q.main == p.main && q.sub == p.sub
