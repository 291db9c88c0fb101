-- Laws of what is published.
use Rattle.std.specs.Prelude.{◌≡◌, ◌⊎◌, ◌≤◌, ℕ, List, [], ◌∷◌, ◌++◌, length, fold, nat_lt, if◌then◌else◌, Option, None, Some}
use Rattle.std.specs.List.{AllByRecursion}
use Rattle.kv_model.specs.declared.version.Rev.{Rev}
use Rattle.kv_model.specs.declared.version.Version.{Version}
use Rattle.kv_model.specs.Lists.{IsPart}
use Rattle.kv_model.specs.Calls.{Call}
use Rattle.kv_model.specs.World.{World, added}
use Rattle.kv_model.specs.Wire.{raised}
use Rattle.kv_model.specs.Step.{perform, expire}
use Rattle.kv_model.specs.Feed.{Published}
use Rattle.store_laws.specs.Snapshots.{Stored, store_of, absorb, grow, untrimmed_of}
use Rattle.store_laws.specs.Changes.{untrimmed, change_of, change_of_expiry}
use Rattle.store_laws.specs.Stands.{Store, StandsFor}
use Rattle.store_laws.specs.Trimming.{oldest_place}

-- what a command publishes leads from its world to the world after it
abbrev pub CommandIsPublished : Type 0
CommandIsPublished = (w : World) (call : Call)
    → fold grow (untrimmed w) (change_of w call) ≡ untrimmed (perform w call).1

-- and so does what an expiry step publishes
abbrev pub ExpiryIsPublished : Type 0
ExpiryIsPublished = (w : World) → fold grow (untrimmed w) (change_of_expiry w) ≡ untrimmed (expire w).1

-- a command publishes one operation or none
abbrev pub CommandIsOneChange : Type 0
CommandIsOneChange = (w : World) (call : Call) → length (change_of w call) ≤ 1

abbrev pub ExpiryIsOneChange : Type 0
ExpiryIsOneChange = (w : World) → length (change_of_expiry w) ≤ 1

-- a reader stores some of the versions that were published, with the same compaction and revision
pub record Stores (ops : List Published) : Type 0 where
  pub part : IsPart (store_of ops).versions (untrimmed_of ops).versions
  pub compacted : (store_of ops).compacted ≡ (untrimmed_of ops).compacted
  pub revision : (store_of ops).revision ≡ (untrimmed_of ops).revision

abbrev pub ReaderStoresPart : Type 0
ReaderStoresPart = (ops : List Published) → Stores ops

-- ---- the revision of a change

-- a change that raised the revision to another is one batch, all of it of that revision; else it is the floor of an
-- accepted Compact, or nothing
abbrev pub IsOfRevision : List Published → Option ℕ → Type 0
IsOfRevision ops (Some r) = (vs : List Version) × (ops ≡ Published.batch vs ∷ []) × AllByRecursion (λ v. v.rev.main ≡ r) vs
IsOfRevision ops None = (ops ≡ []) ⊎ ((c : ℕ) × (ops ≡ Published.floor c ∷ []))

abbrev pub CommandIsOfRevision : Type 0
CommandIsOfRevision = (w : World) (call : Call) → IsOfRevision (change_of w call) (raised w (perform w call).1)

abbrev pub ExpiryIsOfRevision : Type 0
ExpiryIsOfRevision = (w : World) → IsOfRevision (change_of_expiry w) (raised w (expire w).1)

-- ---- what is stored, by what is published

-- what a store keeps, and the first place that trimming has not looked at, as readers have them
abbrev pub stored_at : Store → Rev → Stored
stored_at s p = record { versions = s.versions; compacted = s.compacted; revision = s.revision; place = p }

-- a store and its place follow two worlds: what is added to the one is added to the other, and trimming begins again
-- where the compaction moved
pub record GoesAlong (s t : Store) (p q : Rev) (w u : World) : Type 0 where
  pub stood : StandsFor s w
  pub stands : StandsFor t u
  pub versions : t.versions ≡ s.versions ++ added w u
  pub place : q ≡ (if nat_lt w.compacted u.compacted then oldest_place else p)

-- what is kept after a command is what was kept, with what the command publishes
abbrev pub CommandIsStored : Type 0
CommandIsStored = (s t : Store) (p q : Rev) (w : World) (call : Call) → GoesAlong s t p q w (perform w call).1
    → stored_at t q ≡ fold absorb (stored_at s p) (change_of w call)

-- and so it is after a step of expiry
abbrev pub ExpiryIsStored : Type 0
ExpiryIsStored = (s t : Store) (p q : Rev) (w : World) → GoesAlong s t p q w (expire w).1
    → stored_at t q ≡ fold absorb (stored_at s p) (change_of_expiry w)
