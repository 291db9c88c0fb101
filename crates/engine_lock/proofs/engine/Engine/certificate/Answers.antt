use Rattle.std.proofs.Common.{sym, ◌∙◌, ap, subst}
use Rattle.kv_model.specs.declared.ids.Ids.{Ids}
use Rattle.engine_lock.specs.Entering.{Makes}
use Rattle.engine_lock.specs.Locked.{EngineState}
use Rattle.kv_model.specs.Wire.{WireEvent}
use Rattle.json_gateway.specs.Runs.{certified_outcome}
use Rattle.event_book.specs.Events.{Event}
use Rattle.engine_lock.proofs.Submitting.{left_makes}
use Rattle.engine_lock.proofs.engine.Engine.certificate.Goals as goal

pub returns : goal.returns
returns g c = subst (λ (i : Ids). Makes i c.args.client.now Event.certificate WireEvent.certify (certified_outcome c.certificate.result) c.certificate.new.client) (sym c.self.invariant.0 ∙ ap (λ (s : EngineState). s.ids) c.self.view_is)
    (left_makes g.L.ListName.ids c.args.client.now c.certificate.new.client c.leave.new.self Event.certificate WireEvent.certify (certified_outcome c.certificate.result) c.leave.ensures c.certificate.ensures)
