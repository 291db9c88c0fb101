use Rattle.std.proofs.Common.{sym, ◌∙◌}
use Rattle.http_connections.proofs.Readings.{caught, left_now}
use Rattle.http_connections.proofs.beside.is_caught_up.Goals as goal

pub returns : goal.returns
returns g c = caught c.args.events.now.engine.now.ids g.L.EngineName.recorded _ c.args.client.now c.catch_up.new.client c.args.now c.catch_up.result c.requires (sym c.is_recorded.ensures ∙ c.if-is_recorded.false) c.catch_up.ensures

pub returns-then-is_recorded : goal.returns-then-is_recorded
returns-then-is_recorded g c = left_now c.args.events.now.engine.now.ids _ c.args.client.now c.leave.new.self c.leave.ensures
