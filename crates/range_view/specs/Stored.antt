-- What is kept, and how it grows.
use Rattle.std.specs.Prelude.{◌≡◌, ℕ, ◌+◌, ◌-◌, ◌<◌, ◌≤◌, ◌==◌, nat_lt, List, [], ◌∷◌, ◌++◌, Bool, true, false, ◌&&◌}
use Rattle.std.specs.Prelude.{if◌then◌else◌}
use Rattle.std.specs.List.{AllByRecursion}
use Rattle.kv_model.specs.declared.version.Rev.{Rev}
use Rattle.kv_model.specs.declared.version.Version.{Version}
pub use Rattle.store_laws.specs.Snapshots.{Stored, blank_at, blank, appended, compacted_at, trim_of, trimmed_once}
use Rattle.version_table.specs.Rising.{IsRising, retracted}
use Rattle.key_index.specs.Index.{Index}
use Rattle.key_index.specs.Agrees.{Agrees}
pub use Rattle.key_index.specs.Agrees.{IsBelow, AreOf}

-- what is kept, seen at a place
pub record Viewed : Type 0 where
  pub versions : List Version
  pub compacted : ℕ
  pub revision : ℕ
  pub place : Rev

-- no version is of a later revision
abbrev pub IsUpTo : ℕ → List Version → Type 0
IsUpTo main vs = AllByRecursion (λ v. v.rev.main ≤ main) vs

-- none is of this main revision
abbrev pub AreNotOf : ℕ → List Version → Type 0
AreNotOf main vs = AllByRecursion (λ v. (v.rev.main == main) ≡ false) vs

-- the versions rise, up to the present revision
pub record IsStored (s : Stored) : Type 0 where
  pub opened : 1 ≤ s.revision
  pub rising : IsRising s.versions
  pub upto : IsUpTo s.revision s.versions

-- an index and the versions that it is of, which rise
pub record AreTied (i : Index) (vs : List Version) : Type 0 where
  pub rising : IsRising vs
  pub agrees : Agrees i vs

-- an index and what is kept beside it
pub record AreTables (i : Index) (s : Stored) : Type 0 where
  pub stored : IsStored s
  pub agrees : Agrees i s.versions

-- ---- growth

-- each is of the revision of the one before, and numbered behind it
abbrev pub goes_on : Rev → List Version → Bool
goes_on p [] = true
goes_on p (v ∷ vs) = v.rev.main == p.main && nat_lt p.sub v.rev.sub && goes_on v.rev vs

-- the versions of the revision after this one, rising
abbrev pub is_next : ℕ → List Version → Bool
is_next now [] = true
is_next now (v ∷ vs) = v.rev.main == now + 1 && goes_on v.rev vs

-- without the present revision, where it is this one and not the first
abbrev pub retracted_to : ℕ → Stored → Stored
retracted_to main s =
    if main == s.revision && nat_lt 1 main
    then record s { versions = retracted main s.versions; revision = main - 1 }
    else s

-- what is kept, seen at a place
abbrev pub seen_at : Rev → Stored → Viewed
seen_at p s = record { versions = s.versions; compacted = s.compacted; revision = s.revision; place = p }
