use Rattle.std.proofs.Common.{◌≡◌, ◌++◌, map, drop}
use Rattle.commands.specs.Said.{bytes_of, texts_shown}
use Rattle.commands.proofs.said.texts_of.Given as goal

-- with the texts of the outcomes that are left, what stands there is the texts of all
abbrev pub invariant-loop-outcome : goal.invariant-loop-outcome
invariant-loop-outcome l = map bytes_of l.texts.items ++ texts_shown (drop l.outcome-index l.outcomes) ≡ texts_shown l.outcomes
