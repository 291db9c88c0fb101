use Rattle.kv_model.specs.Commands.{call_of}
use Rattle.std.proofs.Common.{refl, ◌∙◌}
use Rattle.kv_model.specs.Answers.{success_response, fault_of}
use Rattle.request_core.specs.Answers.{answer_of, has_changed}
use Rattle.json_gateway.specs.Endings.{is_physical}
use Rattle.json_gateway.proofs.Accepted.{accepted_counted}
use Rattle.json_gateway.proofs.First.{accepted_first, refused_first}
use Rattle.json_gateway.proofs.Keeps.{accepted_keeps, refused_keeps}
use Rattle.json_gateway.proofs.Sinks.{accepted_untold}
use Rattle.json_gateway.proofs.Trims.{does_wait, none_waits}
use Rattle.json_gateway.proofs.commands.perform_to.Goals as goal

pub returns-in-Ok-clause-counted : goal.returns-in-Ok-clause-counted
returns-in-Ok-clause-counted g c = λ w h is.
    accepted_counted c.args.core.now c.apply_to.new.self c.in-Ok.receipt (call_of c.args.command.now) c.in-Ok.ensures.done w h

pub returns-in-Ok-clause-ready : goal.returns-in-Ok-clause-ready
returns-in-Ok-clause-ready g c = λ no. c.waits.ensures ∙ none_waits c.settled.result (success_response c.args.ids.now (answer_of c.in-Ok.receipt c.apply_to.new.self))
    (has_changed c.in-Ok.receipt) (is_physical (call_of c.args.command.now)) c.in-Ok.receipt.revision c.settled.ensures refl no

pub returns-in-Ok-clause-waits : goal.returns-in-Ok-clause-waits
returns-in-Ok-clause-waits g c = λ w h yes. c.waits.ensures
    ∙ does_wait c.args.core.now c.apply_to.new.self (call_of c.args.command.now) c.in-Ok.receipt c.in-Ok.ensures.done w h

pub returns-in-Ok-clause-keeps : goal.returns-in-Ok-clause-keeps
returns-in-Ok-clause-keeps g c =
    accepted_keeps c.args.core.now c.apply_to.new.self c.in-Ok.receipt (call_of c.args.command.now) c.settled.result
    (success_response c.args.ids.now (answer_of c.in-Ok.receipt c.apply_to.new.self)) c.in-Ok.ensures.done c.settled.ensures

pub returns-in-Err-clause-keeps : goal.returns-in-Err-clause-keeps
returns-in-Err-clause-keeps g c =
    refused_keeps g.S.Sink.never_fails c.args.core.now c.apply_to.new.self (call_of c.args.command.now) c.in-Err.refusal c.declined.result
    (fault_of c.in-Err.refusal) c.in-Err.ensures.refused c.declined.ensures.refuses

pub returns-in-Ok-clause-untold : goal.returns-in-Ok-clause-untold
returns-in-Ok-clause-untold g c =
    accepted_untold g.S.Sink.takes c.args.sink.now c.apply_to.new.sink c.args.core.now c.apply_to.new.self
    (call_of c.args.command.now) c.in-Ok.receipt c.settled.result (success_response c.args.ids.now (answer_of c.in-Ok.receipt c.apply_to.new.self)) refl
    c.in-Ok.ensures.done c.settled.ensures c.in-Ok.ensures.told

pub returns-in-Ok-clause-first : goal.returns-in-Ok-clause-first
returns-in-Ok-clause-first g c =
    accepted_first c.args.core.now c.apply_to.new.self (call_of c.args.command.now) c.in-Ok.receipt c.settled.result c.in-Ok.ensures.done

pub returns-in-Err-clause-first : goal.returns-in-Err-clause-first
returns-in-Err-clause-first g c =
    refused_first g.S.Sink.never_fails c.args.core.now c.apply_to.new.self (call_of c.args.command.now) c.in-Err.refusal c.declined.result
    c.in-Err.ensures.refused c.declined.ensures.told
