use Rattle.std.proofs.Common.{ap, subst}
use Rattle.kv_model.specs.declared.ids.Ids.{Ids}
use Rattle.engine_lock.specs.Entering.{Submits}
use Rattle.engine_lock.specs.Locked.{EngineState}
use Rattle.engine_lock.proofs.Submitting.{left_submits}
use Rattle.engine_lock.proofs.engine.Engine.submit_request.Goals as goal

pub returns : goal.returns
returns g c = subst (λ (i : Ids). Submits i c.args.client.now c.args.now c.args.asked.now c.submit-submitted.result c.submit-submitted.new.client) (ap (λ (s : EngineState). s.ids) c.self.view_is)
    (left_submits c.self.inside.ids c.args.client.now c.submit-submitted.new.client c.leave.new.self c.args.now c.args.asked.now c.submit-submitted.result c.leave.ensures c.submit-submitted.ensures.submits)
