-- The operations that are published to readers beside the writer, as plain data.
use Rattle.std.specs.Prelude.{ℕ, List}
use Rattle.kv_model.specs.declared.version.Version.{Version}
use Rattle.kv_model.specs.declared.feed.Op.{Op}
use Rattle.kv_model.specs.declared.feed.Op.TheVariants.{Batch, Floor, Trim}

-- the versions of one revision, the revision of an accepted Compact, or one trimming step
pub data Published : Type 0 where
  batch : List Version → Published
  floor : ℕ → Published
  trim : Published

-- an operation of the program, as plain data
abbrev pub published : Op → Published
published (Batch vs) = Published.batch vs.items
published (Floor c) = Published.floor c
published Trim = Published.trim
