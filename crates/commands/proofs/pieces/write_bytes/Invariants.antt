use Rattle.std.proofs.Common.{◌≡◌, ℕ, List, ◌++◌}
use Rattle.std.specs.Io.KnownBytes.{Appends}
use Rattle.commands.proofs.pieces.write_bytes.Given as goal

abbrev pub invariant-loop : goal.invariant-loop
invariant-loop g l = (front : List ℕ) × (l.bytes ≡ front ++ l.rest) × Appends (g.W.Write.contents l.fn.w) (g.W.Write.contents l.w) front
