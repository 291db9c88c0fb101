-- Tests that fail from some element of a list on.
use Rattle.std.proofs.Common.{◌≡◌, zero, suc, List, [], ◌∷◌, Bool, true, false, refl, sym, ◌∙◌, arith}
use Rattle.std.specs.Prelude.{⊤}
use Rattle.std.specs.List.{AllByRecursion}
use Rattle.std.specs.List.Sorted.{IsPartitionedBy}
use Rattle.store_laws.proofs.Rising.{each-at}

module _ {X : Type 0} where
  abbrev pub Falls : (X → Bool) → List X → Type 0
  Falls t [] = ⊤
  Falls t (x ∷ xs) = (t x ≡ false → AllByRecursion (λ y. t y ≡ false) xs) × Falls t xs

  pub falls-partitioned : (t : X → Bool) (xs : List X) → Falls t xs → IsPartitionedBy t xs
  falls-partitioned t [] f i j d l m h = absurd (omega arith)
  falls-partitioned t (x ∷ xs) f zero zero d l m h = h
  falls-partitioned t (x ∷ xs) f zero (suc j) d l m h = by (t x) refl
    where
      by : (b : Bool) → t x ≡ b → t x ≡ true
      by true e = e
      by false e = let g : false ≡ true = sym (each-at (λ y. t y ≡ false) xs j d (f.0 e) (omega arith)) ∙ h in cc
  falls-partitioned t (x ∷ xs) f (suc i) zero d l m h = absurd (omega arith)
  falls-partitioned t (x ∷ xs) f (suc i) (suc j) d l m h = falls-partitioned t xs f.1 i j d (omega arith) (omega arith) h
