-- Parts of lists, and lists of what is made of pairs of neighbours.
use Rattle.std.specs.Prelude.{ℕ, ◌+◌, ◌*◌, ◌/◌, ◌%◌, ◌≤◌, List, [], ◌∷◌, take, drop, length, if◌then◌else◌, nat_le}
use Rattle.live_keys.specs.declared.part.Part.{Part}

-- the elements from one place on, up to another
abbrev pub between : {X : Type 0} → ℕ → ℕ → List X → List X
between from to xs = drop from (take to xs)

abbrev pub of_part : {X : Type 0} → Part → List X → List X
of_part p xs = between p.from p.to xs

-- the places from one on, up to another, if that comes behind it
abbrev pub interval : ℕ → ℕ → Part
interval from to = if nat_le from to then record { from = from; to = to } else record { from = to; to = to }

pub record IsWithin {X : Type 0} (p : Part) (xs : List X) : Type 0 where
  pub rises : p.from ≤ p.to
  pub inside : p.to ≤ length xs

-- what is made of each two neighbours, without one that is left over
abbrev pub pairs_by : {X Y : Type 0} → (X → X → Y) → List X → List Y
pairs_by g [] = []
pairs_by g (x ∷ []) = []
pairs_by g (x ∷ y ∷ zs) = g x y ∷ pairs_by g zs

-- the pairs that lie within a part, as a part of the pairs
abbrev pub halved : Part → Part
halved p = record { from = p.from / 2 + p.from % 2; to = p.to / 2 }

-- from a part's first place on that a pair within it has
abbrev pub paired_from : Part → ℕ
paired_from p = 2 * (p.from / 2 + p.from % 2)

-- the elements of these pairs
abbrev pub paired : {X : Type 0} → Part → List X → List X
paired p xs = between (paired_from p) (2 * (p.to / 2)) xs
