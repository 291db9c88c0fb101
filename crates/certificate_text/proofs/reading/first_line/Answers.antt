use Rattle.std.proofs.Common.{◌<◌, ◌≡◌, ◌∙◌, length, nat_eq, false, sym, arith}
use Rattle.std.proofs.lemmas.Bool.Decides.{nat_tests}
use Rattle.certificate_text.proofs.Cuts.{lines_step, lines_last}
use Rattle.certificate_text.proofs.reading.first_line.Goals as goal

pub returns-in-Some-clause-lines : goal.returns-in-Some-clause-lines
returns-in-Some-clause-lines c = lines_step c.args.text.now c.cut.result.0.now c.in-Some.rest.now (rw c.in-Some.is at c.cut.ensures.parts)

pub returns-in-None-clause-lines : goal.returns-in-None-clause-lines
returns-in-None-clause-lines c =
    let empty : nat_eq (length c.args.text.now) 0 ≡ false = sym c.is_empty.ensures ∙ c.if-is_empty.false in
    let some : 0 < length c.args.text.now = grind (arith, nat_tests, empty) in
    lines_last c.args.text.now c.cut.result.0.now some (rw c.in-None.is at c.cut.ensures.parts)
