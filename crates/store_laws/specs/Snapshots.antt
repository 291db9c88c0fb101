-- What the operations that were published say to a reader beside the writer, and what it stores by them.
use Rattle.std.specs.Prelude.{ℕ, List, [], ◌++◌, fold}
use Rattle.kv_model.specs.declared.version.Rev.{Rev}
use Rattle.kv_model.specs.declared.version.Version.{Version}
use Rattle.kv_model.specs.Feed.{Published}
use Rattle.store_laws.specs.Trimming.{TrimStep, trimmed, oldest_place}

-- the main of the last of these versions, and the given revision where there are none
abbrev pub last_main_or : ℕ → List Version → ℕ
last_main_or r vs = fold (λ _ v. v.rev.main) r vs

-- ---- where nothing is trimmed

-- every version, the last compaction and the revision
pub record Untrimmed : Type 0 where
  pub versions : List Version
  pub compacted : ℕ
  pub revision : ℕ

abbrev pub nothing_published : Untrimmed
nothing_published = record { versions = []; compacted = 0; revision = 1 }

-- a batch is appended and its main is the new revision; trimming counts for nothing
abbrev pub grow : Untrimmed → Published → Untrimmed
grow u (Published.batch vs) = record u { versions = u.versions ++ vs; revision = last_main_or u.revision vs }
grow u (Published.floor c) = record u { compacted = c }
grow u Published.trim = u

-- what all the operations say, which every answer of a reader goes by
abbrev pub untrimmed_of : List Published → Untrimmed
untrimmed_of = fold grow nothing_published

-- ---- what is kept

-- what is kept, as clauses see it: the versions, the revision of the last compaction, the present revision, and the
-- first place that trimming has not looked at
pub record Stored : Type 0 where
  pub versions : List Version
  pub compacted : ℕ
  pub revision : ℕ
  pub place : Rev

-- no version, at a revision
abbrev pub blank_at : ℕ → Stored
blank_at revision = record { versions = []; compacted = 0; revision = revision; place = oldest_place }

abbrev pub blank : Stored
blank = blank_at 1

-- with the versions of a revision more
abbrev pub appended : Stored → List Version → Stored
appended s vs = record s { versions = s.versions ++ vs; revision = last_main_or s.revision vs }

-- with a compaction more: trimming begins again at the oldest version
abbrev pub compacted_at : ℕ → Stored → Stored
compacted_at c s = record s { compacted = c; place = oldest_place }

-- a trimming step over what is kept
abbrev pub trim_of : Stored → TrimStep
trim_of s = trimmed s.versions s.place s.compacted

-- and what it leaves
abbrev pub trimmed_once : Stored → Stored
trimmed_once s = record s { versions = (trim_of s).versions; place = (trim_of s).place }

-- with what an operation says
abbrev pub absorb : Stored → Published → Stored
absorb s (Published.batch vs) = appended s vs
absorb s (Published.floor c) = compacted_at c s
absorb s Published.trim = trimmed_once s

-- what the operations make of the empty store
abbrev pub store_of : List Published → Stored
store_of = fold absorb blank
