use Rattle.kv_model.specs.Follows.Outcome.{said}
use Rattle.kv_model.specs.Wire.{WireTold}
use Rattle.event_book.specs.Events.{Event}
use Rattle.engine_lock.proofs.Submitting.{catches_up, tells}
use Rattle.engine_lock.proofs.state.State.catch_up.Goals as goal

pub returns-clause-catches : goal.returns-clause-catches
returns-clause-catches g c =
    catches_up g.L.ListName.ids c.args.client.now c.moment.new.client c.tell.new.client c.args.now c.moment.result c.tell.result
    (tells g.L.ListName.ids c.args.client.now (Event.moment c.args.now) (said (WireTold.clock c.moment.result)) c.moment.new.client
    c.tell.new.client c.tell.result c.moment.ensures.out c.tell.ensures.others c.tell.ensures.out c.tell.ensures.told)
    c.moment.ensures.makes c.moment.ensures.quiet
