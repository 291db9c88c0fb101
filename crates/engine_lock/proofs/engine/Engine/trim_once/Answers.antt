use Rattle.std.proofs.Common.{sym, ◌∙◌, ap, subst}
use Rattle.kv_model.specs.declared.ids.Ids.{Ids}
use Rattle.engine_lock.specs.Entering.{MayTrim}
use Rattle.engine_lock.specs.Locked.{EngineState}
use Rattle.engine_lock.proofs.Submitting.{left_may_trim}
use Rattle.engine_lock.proofs.engine.Engine.trim_once.Goals as goal

pub returns-clause-trims : goal.returns-clause-trims
returns-clause-trims g c = subst (λ (i : Ids). MayTrim i c.args.client.now c.trim.result c.trim.new.client) (sym c.self.invariant.0 ∙ ap (λ (s : EngineState). s.ids) c.self.view_is)
    (left_may_trim g.L.ListName.ids c.args.client.now c.trim.new.client c.leave.new.self c.trim.result c.leave.ensures c.trim.ensures.trims)
