use Rattle.std.proofs.Common.{sym, ◌∙◌, ap, subst}
use Rattle.kv_model.specs.declared.ids.Ids.{Ids}
use Rattle.engine_lock.specs.Entering.{SubmitsExpiry}
use Rattle.engine_lock.specs.Locked.{EngineState}
use Rattle.engine_lock.proofs.Submitting.{left_expires}
use Rattle.engine_lock.proofs.engine.Engine.expire_once.Goals as goal

pub returns : goal.returns
returns g c = subst (λ (i : Ids). SubmitsExpiry i c.args.client.now c.args.now c.expire-step.result c.expire-step.new.client) (sym c.self.invariant.0 ∙ ap (λ (s : EngineState). s.ids) c.self.view_is)
    (left_expires g.L.ListName.ids c.args.client.now c.expire-step.new.client c.leave.new.self c.args.now c.expire-step.result c.leave.ensures c.expire-step.ensures.submits)
