-- What is left of a key's revisions where some of them go.
use Rattle.std.specs.Prelude.{List, drop, ◌||◌, if◌then◌else◌}
use Rattle.kv_model.specs.declared.version.Rev.{Rev}
use Rattle.key_index.specs.declared.taken.Taken.{Taken}
use Rattle.key_index.specs.declared.taken.Taken.TheVariants.{Oldest, At, Of}
use Rattle.key_index.specs.declared.taken.Trimming.{Trimming}
use Rattle.key_index.specs.KeyRevisions.{is_followed, undone, without}

abbrev pub left_by : Taken → List Rev → List Rev
left_by Oldest qs = drop 1 qs
left_by (At p) qs = without p qs
left_by (Of main) qs = undone main qs

-- it goes where it is followed, too
abbrev pub trimmed : Trimming → List Rev → Trimming
trimmed t qs = record t { goes = is_followed t.rev t.main qs || t.goes }

abbrev pub left_trimmed : Trimming → List Rev → List Rev
left_trimmed t qs = if t.goes then without t.rev qs else qs
