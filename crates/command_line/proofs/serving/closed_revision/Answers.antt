use Rattle.commands.specs.Script.{line_events}
use Rattle.std.proofs.Common.{subst}
use Rattle.command_line.specs.From.{IsBegun, StopsServing}
use Rattle.command_line.proofs.Beginning.{of_beginning, of_server, on_ok, server_writes_nothing, writes_nothing}
use Rattle.command_line.proofs.serving.closed_revision.Goals as goal

pub returns-in-Ok-clause-begins : goal.returns-in-Ok-clause-begins
returns-in-Ok-clause-begins g c = on_ok c.run_pool.result (subst (λ ids. IsBegun ids (line_events c.args.start.script.items)) c.engine_of-engine.ensures.ids c.in-Ok.ensures.begins)

pub returns-in-Ok-clause-fault : goal.returns-in-Ok-clause-fault
returns-in-Ok-clause-fault g c = server_writes_nothing c.run_pool.result c.run_pool.ensures.fault

pub returns-in-Ok-clause-kind : goal.returns-in-Ok-clause-kind
returns-in-Ok-clause-kind g c = of_server c.run_pool.result _ _ c.run_pool.ensures.fault

pub returns-in-Err-clause-fault : goal.returns-in-Err-clause-fault
returns-in-Err-clause-fault g c = writes_nothing _ _ c.in-Err.fault c.in-Err.ensures.fault

pub returns-in-Err-clause-kind : goal.returns-in-Err-clause-kind
returns-in-Err-clause-kind g c = subst (λ ids. StopsServing ids (line_events c.args.start.script.items) c.in-Err.fault) c.engine_of-engine.ensures.ids (of_beginning _ _ c.in-Err.fault c.in-Err.ensures.fault)
