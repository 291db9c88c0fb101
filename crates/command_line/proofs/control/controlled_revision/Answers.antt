use Rattle.commands.specs.Script.{line_events}
use Rattle.std.proofs.Common.{IfOk, ◌∙◌, subst}
use Rattle.http_front.specs.Closed.{IsClosed}
use Rattle.command_line.specs.From.{IsBegun}
use Rattle.command_line.proofs.Beginning.{on_ok}
use Rattle.command_line.proofs.Closing.{of_core}
use Rattle.command_line.proofs.control.controlled_revision.Goals as goal

pub returns-in-Ok-clause-revision : goal.returns-in-Ok-clause-revision
returns-in-Ok-clause-revision g c =
    let ids_too = c.in-Ok.ensures.ids ∙ c.engine_of-engine.ensures.ids in
    of_core _ c.pool_directed.result c.ended.result (subst (λ ids. IfOk c.pool_directed.result (λ core. IsClosed ids core)) ids_too c.pool_directed.ensures.closed) c.ended.ensures

pub returns-in-Ok-clause-begins : goal.returns-in-Ok-clause-begins
returns-in-Ok-clause-begins g c = on_ok c.ended.result (subst (λ ids. IsBegun ids (line_events c.args.start.script.items)) c.engine_of-engine.ensures.ids c.in-Ok.ensures.begins)
