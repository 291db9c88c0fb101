-- Halving finds its way in a list whose elements stand in some order to those after them.
use Rattle.std.proofs.Common.{◌≡◌, zero, suc, ◌<◌, List, [], ◌∷◌, get_or, Bool, true, arith}
use Rattle.std.specs.Prelude.{⊤}
use Rattle.std.specs.List.{AllByRecursion}
use Rattle.std.specs.List.Sorted.{IsPartitionedBy}
use Rattle.store_laws.proofs.Rising.{each-at}

-- each element stands so to those after it
abbrev pub AreOrdered : {X : Type 0} → (X → X → Type 0) → List X → Type 0
AreOrdered R [] = ⊤
AreOrdered R (x ∷ xs) = AllByRecursion (R x) xs × AreOrdered R xs

module _ {X : Type 0} (R : X → X → Type 0) (p : X → Bool) (before : (x y : X) → R x y → p y ≡ true → p x ≡ true) where
  -- where what stands before an element that passes passes too
  pub partitioned : (xs : List X) → AreOrdered R xs → IsPartitionedBy p xs
  partitioned [] r i j d l m h = absurd (omega arith)
  partitioned (x ∷ xs) r zero zero d l m h = h
  partitioned (x ∷ xs) r zero (suc j) d l m h = before x (get_or xs j d) (each-at (R x) xs j d r.0 (omega arith)) h
  partitioned (x ∷ xs) r (suc i) zero d l m h = absurd (omega arith)
  partitioned (x ∷ xs) r (suc i) (suc j) d l m h = partitioned xs r.1 i j d (omega arith) (omega arith) h
