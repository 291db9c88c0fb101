use Rattle.json_gateway.specs.Runs.{command_view}
use Rattle.std.proofs.Common.{ap, sym, ◌∙◌}
use Rattle.kv_model.specs.World.{revision}
use Rattle.event_book.specs.Events.{Event, led_to}
use Rattle.engine_lock.proofs.Submitting.{submits_told, tells}
use Rattle.engine_lock.proofs.state.State.submit.Goals as goal

pub returns-clause-submits : goal.returns-clause-submits
returns-clause-submits g c =
    submits_told c.args.ids.now c.args.client.now c.make-outcome.new.client c.tell-published.new.client c.args.now c.args.asked.now c.make-outcome.result
    c.tell-published.result (revision (led_to c.make-outcome.new.client.holder.front)) c.status-after.result.revision
    (tells c.args.ids.now c.args.client.now (Event.command c.args.now c.args.asked.now) (command_view c.make-outcome.result) c.make-outcome.new.client
    c.tell-published.new.client c.tell-published.result c.make-outcome.ensures.out c.tell-published.ensures.others c.tell-published.ensures.out c.tell-published.ensures.told)
    c.make-outcome.ensures.submits
    (c.status-after.ensures.revision ∙ sym (ap (λ l. revision (led_to l)) c.make-outcome.ensures.front))
