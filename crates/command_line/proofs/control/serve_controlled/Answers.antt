use Rattle.commands.specs.Script.{line_events}
use Rattle.std.proofs.Common.{IfOk, ap, is_ok, subst, sym}
use Rattle.command_line.specs.From.{IsBegun}
use Rattle.command_line.specs.Histories.{IsOfHistory}
use Rattle.command_line.specs.Serving.{ids_of}
use Rattle.command_line.proofs.Beginning.{on_ok, when_ok}
use Rattle.command_line.proofs.Closing.{closed_at}
use Rattle.command_line.proofs.control.serve_controlled.Goals as goal

pub returns-in-Ok-clause-ok : goal.returns-in-Ok-clause-ok
returns-in-Ok-clause-ok g c =
    let closed = subst (λ a. IfOk c.run_controlled-ended.result (IsOfHistory (ids_of a))) (sym c.in-Serve.is) c.run_controlled-ended.ensures.revision in
    closed_at _ g.W.Write.contents _ _ c.close.result c.run_controlled-ended.result c.in-Ok.revision c.in-Ok.ensures.ended closed c.close.ensures

pub returns-in-Ok-clause-begins : goal.returns-in-Ok-clause-begins
returns-in-Ok-clause-begins g c = on_ok c.close.result
    (subst (λ a. IsBegun (ids_of a) (line_events c.args.start.script.items)) (sym c.in-Serve.is) (when_ok c.run_controlled-ended.result (ap is_ok c.in-Ok.ensures.ended) c.run_controlled-ended.ensures.begins))
