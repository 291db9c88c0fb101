use Rattle.std.proofs.Common.{◌≡◌, ◌∙◌, ◌≢◌, ◌&&◌, false, true, not, eqb, get_or, sym, ap, arith}
use Rattle.std.proofs.lemmas.Bool.Decides.{nat_tests}
use Rattle.commands.proofs.Numbers.{parsed}
use Rattle.command_words.specs.Advice.{is_beyond}
use Rattle.commands.specs.Script.{number_of}
use Rattle.command_words.proofs.advice.is_outside.Goals as goal

pub returns-then-starts_with : goal.returns-then-starts_with
returns-then-starts_with c =
    let plus : eqb (get_or c.args.text.now 0 0) 43 ≡ true =
    sym (c.starts_with.ensures.byte (omega arith) (omega arith) (λ w o h. h)) ∙ c.if-starts_with.true in
    sym (ap (λ b. not b && is_beyond c.args.least c.args.most (number_of c.args.text.now)) plus)

pub returns-else-starts_with : goal.returns-else-starts_with
returns-else-starts_with c =
    let plus : eqb (get_or c.args.text.now 0 0) 43 ≡ false =
    sym (c.starts_with.ensures.byte (omega arith) (omega arith) (λ w o h. h)) ∙ c.if-starts_with.false in
    let no_plus : get_or c.args.text.now 0 0 ≢ 43 = grind (arith, nat_tests) in
    c.is_beyond.ensures
    ∙ ap (is_beyond c.args.least c.args.most) (c.ok.ensures.value ∙ parsed c.parse.result c.args.text.now c.parse.ensures.value.0 no_plus)
    ∙ sym (ap (λ b. not b && is_beyond c.args.least c.args.most (number_of c.args.text.now)) plus)
