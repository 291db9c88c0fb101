use Rattle.std.proofs.Common.{◌∙◌, sym, ap, cond, None}
use Rattle.certificate_text.specs.Reading.{number_of, number_up_to}
use Rattle.certificate_text.proofs.Digits.{not_digits}
use Rattle.certificate_text.proofs.numbers.number_of.Goals as goal

pub returns-in-Err-clause-value : goal.returns-in-Err-clause-value
unfolding number_of
returns-in-Err-clause-value c =
    let bad = rw c.in-Err.is at c.from_utf8.ensures.cases in
    sym (ap (λ b. cond b None (number_up_to c.args.most c.args.text.now)) (sym c.has_zeros_before.ensures ∙ c.if-has_zeros_before.false) ∙ not_digits _ _ bad.0)
