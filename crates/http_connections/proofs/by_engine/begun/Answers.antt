use Rattle.std.proofs.Common.{inl, inr, sym, subst}
use Rattle.kv_model.specs.declared.call.Command.{Command}
use Rattle.json_gateway.specs.declared.outcome.Outcome.{Outcome}
use Rattle.http_connections.specs.Engines.{Looks, Starts}
use Rattle.http_connections.proofs.by_engine.begun.Goals as goal

pub returns-in-Some : goal.returns-in-Some
returns-in-Some g c = inr (subst (λ (o : Outcome). Looks c.args.events.now.engine.now.ids g.L.EngineName.recorded (g.C.Clock.Tells c.args.clock.now) c.args.client.now
    c.args.asked.now.command o c.looked.new.client) (sym c.at_once.ensures)
    (subst (λ (x : Command). Looks c.args.events.now.engine.now.ids g.L.EngineName.recorded (g.C.Clock.Tells c.args.clock.now) c.args.client.now x c.in-Some.outcome c.looked.new.client)
    c.command.ensures.command c.in-Some.ensures.looks))

pub returns-in-None : goal.returns-in-None
returns-in-None g c = inl (record {
  from = c.looked.new.client;
  starts = subst (λ (x : Command). Starts c.args.events.now.engine.now.ids (g.C.Clock.Tells c.args.clock.now) x c.args.client.now c.looked.new.client) c.command.ensures.command c.in-None.ensures.none;
  now = c.args.now;
  at = c.requires;
  submits = c.submit_request.ensures;
})
