-- All texts that were taken of the lines.
use Rattle.std.specs.Prelude.{ℕ, List, [], ◌∷◌, ◌++◌}
use Rattle.recording.specs.declared.taken.Last.{Last}
use Rattle.recording.specs.declared.taken.Last.TheVariants as last

abbrev pub taken_by : Last → List (List ℕ)
taken_by last.Nothing = []
taken_by (last.After before text) = before.value ++ text.value.items ∷ []
