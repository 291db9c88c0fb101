use Rattle.std.proofs.Common.{List, [], ◌∷◌, ◌++◌}
use Rattle.commands.specs.Controlling.{order_of}
use Rattle.commands.proofs.Fronts.{both_written}
use Rattle.commands.proofs.Orders.{answers_more, both_front, on_err, reads_more, reads_some, when, whole_front}
use Rattle.commands.proofs.controlling.control.Goals as goal

pub returns-in_err-take_line-clause-cut : goal.returns-in_err-take_line-clause-cut
returns-in_err-take_line-clause-cut g c =
    let (read, text, answered, wrote, left) = c.loop.invariant in
    on_err c.from_residual.result (read, text, answered, whole_front _ _ text wrote, reads_some _ _ read left)

pub returns-in_err-answer_line-clause-cut : goal.returns-in_err-answer_line-clause-cut
returns-in_err-answer_line-clause-cut g c =
    let (read, text, answered, wrote, left) = c.loop.invariant in
    let (reply, one, written) = c.in_err-answer_line.ensures.written in
    let taken = when _ _ c.in_ok-take_line.field-0 c.if-not-branch.false c.in_ok-take_line.ensures.taken in
    let first = rw c.as_slice.ensures.value at c.first_line.ensures.line in
    on_err c.from_residual-in_err-answer_line.result (
      read ++ order_of c.first_line.result.0.now ∷ [],
      text ++ reply,
      answers_more _ read text _ _ _ reply _ answered one,
      both_front _ _ _ text reply wrote written,
      reads_some _ _ _ (reads_more _ _ _ read _ _ c.first_line.result.1.now left taken first),
    )

pub loop-preserved : goal.loop-preserved
loop-preserved g c =
    let (read, text, answered, wrote, left) = c.loop.invariant in
    let (reply, one, written) = c.in_ok-answer_line.ensures.written in
    let taken = when _ _ c.in_ok-take_line.field-0 c.if-not-branch.false c.in_ok-take_line.ensures.taken in
    let first = rw c.as_slice.ensures.value at c.first_line.ensures.line in (
      read ++ order_of c.first_line.result.0.now ∷ [],
      text ++ reply,
      answers_more _ read text _ _ _ reply _ answered one,
      both_written _ _ _ text reply wrote written,
      reads_more _ _ _ read _ _ c.first_line.result.1.now left taken first,
    )

pub returns-clause-cut : goal.returns-clause-cut
returns-clause-cut g c =
    let (read, text, answered, wrote, left) = c.loop.invariant in
    (read, text, answered, whole_front _ _ text wrote, reads_some _ _ read left)
