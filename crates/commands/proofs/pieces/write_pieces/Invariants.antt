use Rattle.std.proofs.Common.{◌≡◌, ℕ, List, ◌++◌, map, drop}
use Rattle.std.specs.List.{concat}
use Rattle.std.specs.Io.KnownBytes.{Appends}
use Rattle.commands.proofs.pieces.write_pieces.Given as goal

abbrev pub invariant-loop-piece : goal.invariant-loop-piece
invariant-loop-piece g l = (front : List ℕ) × Appends (g.W.Write.contents l.fn.w) (g.W.Write.contents l.w) front
    × (concat (map (λ piece. piece.now) l.pieces) ≡ front ++ concat (map (λ piece. piece.now) (drop l.piece-index l.pieces)))
