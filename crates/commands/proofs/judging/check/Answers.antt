use Rattle.commands.proofs.Verdicts.{front_of_verdict}
use Rattle.commands.proofs.judging.check.Goals as goal

pub returns-clause-cut : goal.returns-clause-cut
returns-clause-cut g c =
    let read = rw c.new-reader.ensures.reader at c.in_ok-text.ensures.ok in
    let judged = rw c.as_slice.ensures.value at c.in_ok-verdict.ensures.verdict in
    λ _. front_of_verdict _ _ _ c.in_ok-text.text.items c.in_ok-verdict.verdict read judged c.in-Err.ensures
