use Rattle.std.proofs.Common.{◌≡◌, ◌∙◌, ◌≢◌, ◌≤◌, ℕ, Ok, false, eqb, get_or, sym, arith}
use Rattle.std.proofs.lemmas.Bool.Decides.{nat_tests}
use Rattle.certificate_text.proofs.Digits.{parsed, parsed_none}
use Rattle.certificate_text.proofs.numbers.number_up_to.Goals as goal

pub returns-in-Ok-clause-value : goal.returns-in-Ok-clause-value
returns-in-Ok-clause-value c =
    let plus : eqb (get_or c.args.text.now 0 0) 43 ≡ false =
    sym (c.starts_with.ensures.byte (omega arith) (omega arith) (λ w o h. h)) ∙ c.if-starts_with.false in
    let no_plus : get_or c.args.text.now 0 0 ≢ 43 = grind (arith, nat_tests) in
    sym (parsed c.args.most c.in-Ok.number c.args.text.now c.parse.result c.parse.ensures.value.0 no_plus c.in-Ok.is (let bound = c.if-number-most.true in grind (arith, nat_tests, bound)))

pub returns-in_default-2-clause-value : goal.returns-in_default-2-clause-value
returns-in_default-2-clause-value c =
    let plus : eqb (get_or c.args.text.now 0 0) 43 ≡ false =
    sym (c.starts_with.ensures.byte (omega arith) (omega arith) (λ w o h. h)) ∙ c.if-starts_with.false in
    let no_plus : get_or c.args.text.now 0 0 ≢ 43 = grind (arith, nat_tests) in
    sym (parsed_none c.args.most c.args.text.now c.parse.result c.ranges.most.fits c.parse.ensures.value.0 no_plus (λ n is bound. let bad = sym is ∙ c.in_default.is in cc bad))
