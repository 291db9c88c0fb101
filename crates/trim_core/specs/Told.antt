-- What a trimming step of the program told, as the model has it.
use Rattle.kv_model.specs.Told.{Trimmed}
use Rattle.trim_core.specs.declared.trimmer.Trim.{Trim}
use Rattle.trim_core.specs.declared.trimmer.Trim.TheVariants.{Removed, Kept, Done}

abbrev pub told_of : Trim → Trimmed
told_of (Removed p) = Trimmed.removed p
told_of (Kept p) = Trimmed.kept p
told_of (Done n) = Trimmed.done n
