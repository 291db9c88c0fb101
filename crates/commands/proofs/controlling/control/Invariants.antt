use Rattle.std.proofs.Common.{ℕ, List, Option}
use Rattle.std.specs.Io.KnownBytes.{Appends}
use Rattle.kv_model.specs.Wire.{WireEvent}
use Rattle.commands.specs.Controlling.{AnswersLines, ReadsLines}
use Rattle.commands.proofs.controlling.control.Given as goal

-- each line that was read is answered
abbrev pub invariant-loop : goal.invariant-loop
invariant-loop g l = (read : List (Option WireEvent)) × (text : List ℕ)
    × AnswersLines (g.C.Controlling.Makes l.fn.controls) read text l.fn.state l.state
    × Appends (g.W.Write.contents l.fn.w) (g.W.Write.contents l.w) text
    × ReadsLines (g.R.Read.remaining l.fn.r) (g.R.Read.remaining l.r) read
