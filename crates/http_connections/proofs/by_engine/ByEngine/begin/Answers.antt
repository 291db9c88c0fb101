use Rattle.http_input.specs.Inputs.{request_view}
use Rattle.http_connections.proofs.Firsts.{came, came_bad}
use Rattle.http_connections.proofs.by_engine.ByEngine.begin.Goals as goal

pub returns-in-Ok : goal.returns-in-Ok
returns-in-Ok g c = came c.args.self.now.events.engine.now.ids g.L.EngineName.recorded (g.C.Clock.Tells c.args.self.now.clock.now) c.args.client.now (request_view c.args.request.now)
    c.command_path-path.result.now c.command_path-path.ensures c.begun.result c.begun.new.client c.in-Ok.command c.by-asked.result c.in-Ok.ensures.gives c.by-asked.ensures c.begun.ensures

pub returns-in-Err : goal.returns-in-Err
returns-in-Err g c = came_bad c.args.self.now.events.engine.now.ids g.L.EngineName.recorded (g.C.Clock.Tells c.args.self.now.clock.now) c.args.client.now (request_view c.args.request.now)
    c.command_path-path.result.now c.command_path-path.ensures c.at_once.result c.in-Err.bad c.refused.result c.in-Err.ensures.gives c.refused.ensures.refuses c.refused.ensures.bare
    c.at_once.ensures
