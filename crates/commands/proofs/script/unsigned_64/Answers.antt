use Rattle.std.proofs.Common.{◌≡◌, ◌∙◌, ◌≢◌, false, eqb, get_or, sym, arith}
use Rattle.std.proofs.lemmas.Bool.Decides.{nat_tests}
use Rattle.commands.proofs.Numbers.{parsed}
use Rattle.commands.proofs.script.unsigned_64.Goals as goal

pub returns-else-starts_with : goal.returns-else-starts_with
returns-else-starts_with c =
    let plus : eqb (get_or c.args.text.now 0 0) 43 ≡ false =
    sym (c.starts_with.ensures.byte (omega arith) (omega arith) (λ w o h. h)) ∙ c.if-starts_with.false in
    let no_plus : get_or c.args.text.now 0 0 ≢ 43 = grind (arith, nat_tests) in
    c.ok.ensures.value ∙ parsed c.parse.result c.args.text.now c.parse.ensures.value.0 no_plus
