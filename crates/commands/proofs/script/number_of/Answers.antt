use Rattle.std.proofs.Common.{sym}
use Rattle.commands.proofs.Numbers.{not_digits}
use Rattle.commands.proofs.script.number_of.Goals as goal

pub returns-in-Err : goal.returns-in-Err
returns-in-Err c =
    let bad = rw c.in-Err.is at c.from_utf8.ensures.cases in
    sym (not_digits c.args.text.now bad.0)
