-- What holds of every history and world that a run comes to. No answer is defined by it.
use Rattle.std.specs.Prelude.{◌≡◌, ◌≢◌, ℕ, ◌≤◌, ◌^◌, ◌<◌, List, [], ◌∷◌, true, ⊤}
use Rattle.std.specs.List.{AllByRecursion}
use Rattle.kv_model.specs.History.{Mutation, rev_lt}
use Rattle.kv_model.specs.World.{World, revision}

abbrev pub IsBefore : Mutation → Mutation → Type 0
IsBefore m n = (rev_lt m.rev n.rev ≡ true) × (m.rev.main ≡ n.rev.main → m.key ≢ n.key)

-- a change stands behind the opening, its number within the revision fits 64 bits, and its key is not empty
pub record IsChange (m : Mutation) : Type 0 where
  pub behind : 1 < m.rev.main
  pub number : m.rev.sub < 2 ^ 64
  pub has_key : m.key ≢ []

-- revisions rise, and no key changes twice in one
abbrev pub IsHistory : List Mutation → Type 0
IsHistory [] = ⊤
IsHistory (m ∷ ms) = IsChange m × AllByRecursion (IsBefore m) ms × IsHistory ms

-- the changes of one command: they make a history, and all have the main revision
pub record IsBatch (main : ℕ) (us : List Mutation) : Type 0 where
  pub history : IsHistory us
  pub at : AllByRecursion (λ u. u.rev.main ≡ main) us

-- what holds of every world that a run comes to: its changes are a history, and what is compacted has happened
pub record IsSound (w : World) : Type 0 where
  pub history : IsHistory w.mutations
  pub floor : w.compacted ≤ revision w
