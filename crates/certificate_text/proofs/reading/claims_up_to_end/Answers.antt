use Rattle.std.proofs.Common.{◌∙◌, sym}
use Rattle.certificate_text.specs.Reading.{claim_in}
use Rattle.certificate_text.proofs.Walks.{ended_at, more_at, fails_at, missing_at}
use Rattle.certificate_text.proofs.reading.claims_up_to_end.Goals as goal

pub returns-then-is_end : goal.returns-then-is_end
returns-then-is_end c = ended_at (claim_in c.args.is_first) c.loop-line.claims.items c.in-Some.line.now _ _ _ c.in-Some.ensures.lines (sym c.is_end.ensures ∙ c.if-is_end.true) c.loop-line.invariant

pub returns-in-Err : goal.returns-in-Err
returns-in-Err c =
    rw c.stop_at.ensures (fails_at (claim_in c.args.is_first) c.loop-line.claims.items c.in-Some.line.now c.loop-line.rest _ _ c.in-Err.unfit c.in-Some.ensures.lines
    (sym c.is_end.ensures ∙ c.if-is_end.false) c.in-Err.ensures.0 c.loop-line.invariant)

pub loop-line-preserved : goal.loop-line-preserved
loop-line-preserved c =
    rw c.in_ok-push-in-Ok.ensures.items (more_at (claim_in c.args.is_first) c.loop-line.claims.items c.in-Ok.claim c.in-Some.line.now _ _ _ c.in-Some.ensures.lines
    (sym c.is_end.ensures ∙ c.if-is_end.false) c.in-Ok.ensures c.loop-line.invariant)

pub returns : goal.returns
returns c = missing_at (claim_in c.args.is_first) c.loop-line.claims.items _ _ c.in_default.ensures.lines c.loop-line.invariant
