-- A trimming step of the program, as the model has it.
use Rattle.std.specs.Prelude.{◌≡◌, ℕ, List, filter, Bool, not, nat_le, true, Option, None, Some, if◌then◌else◌}
use Rattle.std.specs.List.{find}
use Rattle.kv_model.specs.declared.version.Rev.{Rev}
use Rattle.kv_model.specs.declared.version.Version.{Version}
use Rattle.kv_model.specs.History.{rev_lt}
use Rattle.store_laws.specs.Trimming.{TrimStep, IsTrimmedTo, is_trimmed}
use Rattle.version_table.specs.Rising.{IsRising}
use Rattle.key_index.specs.KeyRevisions.{is_oldest}
use Rattle.key_index.specs.Index.{Index, revisions}
use Rattle.key_index.specs.Agrees.{Agrees}
use Rattle.trim_core.specs.declared.trimmer.Trim.{Trim}
use Rattle.trim_core.specs.Told.{told_of}

-- what a step told, with the versions and the place that it left
abbrev pub step_of : Trim → List Version → Rev → TrimStep
step_of t vs p = record { told = told_of t; versions = vs; place = p }

abbrev pub if_by : ℕ → Option Version → Option Version
if_by c None = None
if_by c (Some v) = if nat_le v.rev.main c then Some v else None

-- the version to visit next: the first one that is not before the place, where it is at or below the compaction
abbrev pub next_version : List Version → Rev → ℕ → Option Version
next_version vs p c = if_by c (find (λ v. not (rev_lt v.rev p)) vs)

-- where nothing that goes was left behind the place, the version to visit, if it goes, is the oldest of its key: the
-- index has it first
abbrev pub RemovedIsOldest : Type 0
RemovedIsOldest = (i : Index) (vs : List Version) (p : Rev) (c : ℕ) (v : Version) → IsRising vs → Agrees i vs
    → IsTrimmedTo vs p c → next_version vs p c ≡ Some v → is_trimmed vs c v ≡ true
    → is_oldest v.rev (revisions v.key i) ≡ true

-- where versions are dropped, as those of a revision that is taken back, still nothing that goes is behind the place
abbrev pub FewerStayTrimmed : Type 0
FewerStayTrimmed = (vs : List Version) (t : Version → Bool) (p : Rev) (c : ℕ) → IsTrimmedTo vs p c
    → IsTrimmedTo (filter t vs) p c
