use Rattle.commands.specs.Script.{line_events}
use Rattle.std.proofs.Common.{IfOk, OnOk, subst, sym}
use Rattle.command_line.specs.From.{IsBegun}
use Rattle.command_line.specs.Histories.{IsOfHistory}
use Rattle.command_line.specs.Serving.{ids_of}
use Rattle.command_line.proofs.Beginning.{begun_too}
use Rattle.command_line.proofs.Closing.{cut_of_history, told_of_history}
use Rattle.command_line.proofs.serving.serve_by.Goals as goal

pub returns-clause-ok : goal.returns-clause-ok
returns-clause-ok g c =
    let closed = subst (λ a. IfOk c.run_server.result (IsOfHistory (ids_of a))) (sym c.in-Serve.is) c.run_server.ensures.revision in
    told_of_history _ _ _ c.tell_end.result c.run_server.result c.tell_end.ensures.ok closed

pub returns-clause-cut : goal.returns-clause-cut
returns-clause-cut g c =
    let closed = subst (λ a. IfOk c.run_server.result (IsOfHistory (ids_of a))) (sym c.in-Serve.is) c.run_server.ensures.revision in
    cut_of_history _ _ _ c.tell_end.result c.run_server.result c.tell_end.ensures.cut closed

pub returns-clause-begins : goal.returns-clause-begins
returns-clause-begins g c = subst (λ a. OnOk c.tell_end.result (IsBegun (ids_of a) (line_events c.args.start.script.items))) (sym c.in-Serve.is)
    (begun_too _ c.tell_end.result c.run_server.result _ c.tell_end.ensures.ok c.run_server.ensures.begins)
