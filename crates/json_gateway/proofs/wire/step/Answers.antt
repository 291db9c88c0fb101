use Rattle.std.proofs.Common.{sym, subst}
use Rattle.kv_model.specs.Follows.Outcome.{said}
use Rattle.kv_model.specs.Wire.{WireTold}
use Rattle.json_gateway.specs.declared.wire.WireEvent.{WireEvent}
use Rattle.json_gateway.specs.Runs.{event_view, outcome_view}
use Rattle.json_gateway.specs.Steps.{Steps}
use Rattle.json_gateway.proofs.Events.{moment_steps}
use Rattle.json_gateway.proofs.wire.step.Goals as goal

pub returns-in-Expire-clause-steps : goal.returns-in-Expire-clause-steps
returns-in-Expire-clause-steps c = λ w h.
    subst (λ (e : WireEvent). Steps c.args.ids.now w (event_view e) (outcome_view c.step_expire.result) c.args.core.now c.step_expire.new.core) (sym c.in-Expire.is)
    (c.step_expire.ensures.steps c.args.ids.now w h)

pub returns-in-Close-clause-steps : goal.returns-in-Close-clause-steps
returns-in-Close-clause-steps c = λ w h.
    subst (λ (e : WireEvent). Steps c.args.ids.now w (event_view e) (outcome_view c.step_close.result) c.args.core.now c.step_close.new.core) (sym c.in-Close.is)
    (c.step_close.ensures.steps c.args.ids.now w h)

pub returns-in-Trim-clause-steps : goal.returns-in-Trim-clause-steps
returns-in-Trim-clause-steps c = λ w h.
    subst (λ (e : WireEvent). Steps c.args.ids.now w (event_view e) (outcome_view c.step_trim.result) c.args.core.now c.step_trim.new.core) (sym c.in-Trim.is)
    (c.step_trim.ensures.steps c.args.ids.now w h)

pub returns-in-Moment-clause-steps : goal.returns-in-Moment-clause-steps
returns-in-Moment-clause-steps c = λ w h.
    let after = c.moment.ensures.stands w h in
    subst (λ (e : WireEvent). Steps c.args.ids.now w (event_view e) (said (WireTold.clock c.moment.result)) c.args.core.now c.moment.new.self)
    (sym c.in-Moment.is) (moment_steps c.args.ids.now w c.in-Moment.now c.moment.result c.args.core.now c.moment.new.self
    c.moment.ensures.made after.0 after.1)

pub returns-in-Certify-clause-steps : goal.returns-in-Certify-clause-steps
returns-in-Certify-clause-steps c = λ w h.
    subst (λ (e : WireEvent). Steps c.args.ids.now w (event_view e) (outcome_view c.step_certify.result) c.args.core.now c.args.core.now)
    (sym c.in-Certify.is) (c.step_certify.ensures.steps c.args.ids.now w h)
