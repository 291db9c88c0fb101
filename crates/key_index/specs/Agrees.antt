-- When an index is that of a list of versions, and what a read by it finds.
use Rattle.std.specs.Prelude.{◌≡◌, ◌<◌, ◌==◌, ℕ, true, List, map, filter, Option, Some, option_and_then}
use Rattle.std.specs.List.{AllByRecursion, find}
use Rattle.kv_model.specs.declared.version.Rev.{Rev}
use Rattle.kv_model.specs.declared.version.Version.{Version}
use Rattle.kv_model.specs.Keys.{same_key}
use Rattle.kv_model.specs.History.{KeyValue, latest, key_value, is_at}
use Rattle.key_index.specs.KeyRevisions.{at_place}
use Rattle.key_index.specs.Index.{Index, IsIndex, revisions}

-- the revisions of a key's versions, in their order
abbrev pub revisions_of : List ℕ → List Version → List Rev
revisions_of k vs = map (λ (v : Version). v.rev) (filter (λ v. same_key v.key k) vs)

-- the index has just the revisions of the versions
pub record Agrees (i : Index) (vs : List Version) : Type 0 where
  pub sound : IsIndex i
  pub each : (k : List ℕ) → revisions k i ≡ revisions_of k vs

-- every version is of an earlier main revision than this one, or of this one
abbrev pub IsBelow : ℕ → List Version → Type 0
IsBelow main vs = AllByRecursion (λ v. v.rev.main < main) vs

abbrev pub AreOf : ℕ → List Version → Type 0
AreOf main vs = AllByRecursion (λ v. (v.rev.main == main) ≡ true) vs

-- the last version of a key at a place is the one found by its revision, as where versions rise
abbrev pub FindsLatest : List Version → Type 0
FindsLatest vs = (p : Rev) (k : List ℕ) (v : Version) → latest vs p k ≡ Some v → find (is_at v.rev) vs ≡ Some v

-- what the version at a revision holds
abbrev pub read_at : List Version → Rev → Option KeyValue
read_at vs r = option_and_then key_value (find (is_at r) vs)

-- what a key of the index holds at a place, by the version at its revision
abbrev pub read_entry : List Version → Rev → List ℕ × List Rev → Option KeyValue
read_entry vs p e = option_and_then (read_at vs) (at_place p e.1)
