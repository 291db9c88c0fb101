-- Versions in the order of their revisions, and the ways to change such a list.
use Rattle.std.specs.Prelude.{ℕ, List, Bool, not, ◌==◌, Option, None, Some, filter, if◌then◌else◌}
use Rattle.std.specs.List.{remove}
use Rattle.kv_model.specs.declared.version.Rev.{Rev}
use Rattle.kv_model.specs.declared.version.Version.{Version}
use Rattle.kv_model.specs.History.{rev_lt}
use Rattle.store_laws.specs.Rising as rising
pub use Rattle.store_laws.specs.Rising.{newest}

abbrev pub rev_of : Version → Rev
rev_of v = v.rev

-- the place stands behind every version
abbrev pub IsBehind : Rev → List Version → Type 0
IsBehind p vs = rising.IsBehind rev_of p vs

-- each version stands before those after it
abbrev pub IsRising : List Version → Type 0
IsRising vs = rising.IsRising rev_of vs

-- how many versions stand before a place, in a rising list
abbrev pub count_before : Rev → List Version → ℕ
count_before p vs = rising.count_while (λ v. rev_lt v.rev p) vs

-- the last version is of this main revision
abbrev pub is_newest : ℕ → List Version → Bool
is_newest main vs = rising.is_of rev_of main (newest vs)

-- the versions without those of a main revision where it is the newest, and else all
abbrev pub retracted : ℕ → List Version → List Version
retracted main vs = if is_newest main vs then filter (λ v. not (v.rev.main == main)) vs else vs

-- the versions without the one at an index
abbrev pub without_index : List Version → Option ℕ → List Version
without_index vs None = vs
without_index vs (Some i) = remove vs i
