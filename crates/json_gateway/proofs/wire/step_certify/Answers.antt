use Rattle.json_gateway.proofs.Events.{certify_steps}
use Rattle.json_gateway.proofs.wire.step_certify.Goals as goal

pub returns-clause-steps : goal.returns-clause-steps
returns-clause-steps c = λ ids w h.
    certify_steps ids w c.certified.result c.args.core.now h c.certified.ensures.dump c.certified.ensures.claims
