use Rattle.std.proofs.Common.{ℕ, List, ◌++◌, sym, ap, ◌∙◌, append_assoc}
use Rattle.commands.proofs.Fronts.{both_written, failed, later_front, next_piece}
use Rattle.commands.proofs.pieces.write_pieces.Goals as goal

pub returns-in_err-write_bytes : goal.returns-in_err-write_bytes
returns-in_err-write_bytes g c =
    let (front, written, left) = c.loop-piece.invariant in
    let split = left ∙ ap (λ (t : List ℕ). front ++ t) (next_piece (λ piece. piece.now) _ _ _ c.loop-piece-test.true) in
    failed _ _ _ _ c.from_residual.ensures.0 (later_front _ _ _ _ front _ _ split written c.in_err-write_bytes.ensures.written)

pub loop-piece-preserved : goal.loop-piece-preserved
loop-piece-preserved g c =
    let (front, written, left) = c.loop-piece.invariant in
    let split = left ∙ ap (λ (t : List ℕ). front ++ t) (next_piece (λ piece. piece.now) _ _ _ c.loop-piece-test.true) in
    (_, both_written _ _ _ front _ written c.in_ok-write_bytes.ensures.written, split ∙ sym (append_assoc front _ _))
