use Rattle.std.proofs.Common.{sym, ◌∙◌, ap, subst}
use Rattle.kv_model.specs.declared.ids.Ids.{Ids}
use Rattle.engine_lock.specs.Entering.{Makes}
use Rattle.engine_lock.specs.Locked.{EngineState}
use Rattle.kv_model.specs.Follows.Outcome.{said}
use Rattle.kv_model.specs.Wire.{WireEvent, WireTold}
use Rattle.event_book.specs.Events.{Event}
use Rattle.engine_lock.proofs.Submitting.{left_makes}
use Rattle.engine_lock.proofs.engine.Engine.moment.Goals as goal

pub returns : goal.returns
returns g c = subst (λ (i : Ids). Makes i c.args.client.now (Event.moment c.args.now) (WireEvent.moment c.args.now) (said (WireTold.clock c.moment.result)) c.moment.new.client) (sym c.self.invariant.0 ∙ ap (λ (s : EngineState). s.ids) c.self.view_is)
    (left_makes g.L.ListName.ids c.args.client.now c.moment.new.client c.leave.new.self (Event.moment c.args.now) (WireEvent.moment c.args.now) (said (WireTold.clock c.moment.result)) c.leave.ensures c.moment.ensures.makes)
