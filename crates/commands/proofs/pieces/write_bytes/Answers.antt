use Rattle.std.proofs.Common.{◌≡◌, ℕ, List, ◌++◌, ◌-◌, length, take, drop, sym, ap, ◌∙◌, Bor}
use Rattle.std.proofs.lemmas.List.{take_rest}
use Rattle.commands.proofs.Fronts.{both_written, longer, written_and_kept}
use Rattle.commands.proofs.pieces.write_bytes.Goals.{in-Ok, in-Err+else-ne}
use Rattle.commands.proofs.pieces.write_bytes.Goals as goal

pub loop-preserved : goal.loop-preserved
loop-preserved g c =
    let (front, split, written) = c.loop.invariant in
    let rest = c.loop.rest.now in
    elim c.match-write.branch [
      | in-Ok w ↦
          let n = w.in-Ok.count in
          let left : c.match-write.rest.now ≡ take (length rest - n) (drop n rest) = ap (λ (r : Bor (List ℕ)). r.now) w.rest-is in
          (front ++ take n rest, longer _ front rest n split ∙ ap (λ (t : List ℕ). (front ++ take n rest) ++ t) (sym (left ∙ take_rest rest n)), both_written _ _ _ front _ written w.in-Ok.ensures.bytes)
      | in-Err+else-ne w ↦
          let same : c.match-write.rest.now ≡ rest = ap (λ (r : Bor (List ℕ)). r.now) w.rest-is in
          (front, split ∙ ap (λ (t : List ℕ). front ++ t) (sym same), written_and_kept _ _ _ front written w.in-Err.ensures.bytes)
    ]
