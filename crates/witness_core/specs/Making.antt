-- What a view shows of a store, as a dump, and its certificate by the versions of one key.
use Rattle.std.specs.Prelude.{ℕ, List, [], ◌∷◌, Bool, false, nat_le, if◌then◌else◌}
use Rattle.kv_model.specs.declared.version.Rev.{Rev}
use Rattle.kv_model.specs.declared.version.Version.{Version}
use Rattle.kv_model.specs.History.{rev_lt}
use Rattle.kv_model.specs.Certificates.{Dump}
use Rattle.range_view.specs.Stored.{Viewed}

-- what is kept, whatever the place that the view sees
abbrev pub dump_of : Viewed → Dump
dump_of v = record { floor = v.compacted; revision = v.revision; versions = v.versions }

-- the first of these versions behind a place is at or below a revision
abbrev pub is_first_by : Rev → ℕ → List Version → Bool
is_first_by p r [] = false
is_first_by p r (v ∷ vs) = if rev_lt p v.rev then nat_le v.rev.main r else is_first_by p r vs
