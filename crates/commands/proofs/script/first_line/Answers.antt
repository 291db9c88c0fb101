use Rattle.std.proofs.Common.{◌∙◌, [], ◌∷◌, sym, ap}
use Rattle.commands.proofs.Lines.{lines_step, lines_last, whole_line}
use Rattle.commands.proofs.script.first_line.Goals as goal

pub returns-in-Some-clause-line : goal.returns-in-Some-clause-line
returns-in-Some-clause-line c =
    let found = rw c.in-Some.is at c.cut.ensures.after in
    rw (c.without_return.ensures, c.cut.ensures.before, found.1) (lines_step c.args.text.now found.0)

pub returns-in-None-clause-line : goal.returns-in-None-clause-line
returns-in-None-clause-line c =
    let missing = rw c.in-None.is at c.cut.ensures.after in
    lines_last _ c.requires missing ∙ ap (λ line. line ∷ []) (sym (c.cut.ensures.before ∙ whole_line _ missing))
