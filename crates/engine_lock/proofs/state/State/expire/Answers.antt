use Rattle.event_script.specs.Notes.{step_outcome}
use Rattle.event_book.specs.Events.{Event}
use Rattle.engine_lock.proofs.Submitting.{expires_told, tells}
use Rattle.engine_lock.proofs.state.State.expire.Goals as goal

pub returns-clause-submits : goal.returns-clause-submits
returns-clause-submits g c =
    expires_told g.L.ListName.ids c.args.client.now c.end-step.new.client c.tell-published.new.client c.args.now c.end-step.result c.tell-published.result
    (tells g.L.ListName.ids c.args.client.now (Event.expiry c.args.now) (step_outcome c.end-step.result) c.end-step.new.client
    c.tell-published.new.client c.tell-published.result c.end-step.ensures.out c.tell-published.ensures.others c.tell-published.ensures.out c.tell-published.ensures.told)
    c.end-step.ensures.submits
