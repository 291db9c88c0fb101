-- What the keys of one lease are seen as.
use Rattle.std.specs.Prelude.{ℕ, List, [], ◌∷◌}
use Rattle.lease_keys.specs.declared.set.Held.{Held}
use Rattle.lease_keys.specs.declared.set.Held.TheVariants.{One, Many}

abbrev pub held_keys : Held → List (List ℕ)
held_keys (One k) = k ∷ []
held_keys (Many s) = s.keys
