-- What an event changes of the versions and of the compaction, as it is published to readers.
use Rattle.std.specs.Prelude.{◌≡◌, List, [], ◌∷◌, nat_lt, if◌then◌else◌}
use Rattle.kv_model.specs.declared.version.Version.{Version}
use Rattle.kv_model.specs.Calls.{Call}
use Rattle.kv_model.specs.World.{World, versions, revision, added}
use Rattle.kv_model.specs.Step.{perform, expire}
use Rattle.kv_model.specs.Feed.{Published}
use Rattle.store_laws.specs.Snapshots.{Untrimmed}

-- a world as one has it who was told of every change
abbrev pub untrimmed : World → Untrimmed
untrimmed w = record { versions = versions w; compacted = w.compacted; revision = revision w }

-- one batch, or none where there is nothing in it
abbrev pub batch_of : List Version → List Published
batch_of [] = []
batch_of (v ∷ vs) = Published.batch (v ∷ vs) ∷ []

-- from one world to the next: the compaction where it moved, and else what was added
abbrev pub change_between : World → World → List Published
change_between w u = if nat_lt w.compacted u.compacted then Published.floor u.compacted ∷ [] else batch_of (added w u)

-- what a command publishes
abbrev pub change_of : World → Call → List Published
change_of w call = change_between w (perform w call).1

-- what an expiry step publishes
abbrev pub change_of_expiry : World → List Published
change_of_expiry w = change_between w (expire w).1

-- that taking these operations leads from the first state to the second: one of them or none, as a change is
abbrev pub Takes : {X : Type 0} → (X → Published → X → Type 0) → List Published → X → X → Type 0
Takes takes [] old new = new ≡ old
Takes takes (op ∷ []) old new = takes old op new
Takes takes (op ∷ next ∷ ops) old new = ⊥
