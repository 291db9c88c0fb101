use Rattle.std.proofs.Common.{refl}
use Rattle.http_connections.proofs.Trimmings.{by_done, by_left, by_lost}
use Rattle.http_connections.proofs.turns.Turning.trim.Goals as goal

pub returns-in-Done-clause-goes : goal.returns-in-Done-clause-goes
returns-in-Done-clause-goes g c left pending =
    let k = c.in-Done.ensures.trims in
    by_done c.args.self.now.by.by.events.engine.now.ids g.L.EngineName.recorded (g.C.Clock.Tells c.args.self.now.by.by.clock.now) c.args.self.now.by.by.call left pending
    (g.Out.Write.contents c.args.wire.w) c.args.trimming c.args.serving.now c.begin.new.self c.trim.new.self c.begin.ensures c.in-Done.ensures.rest
    c.end_wait.new.serving (g.Out.Write.contents c.end_wait.result.1.w) c.end_wait.result.0 k.0 k.1 k.2 k.3 c.end_wait.ensures.ends

pub returns-in-Lost-clause-goes : goal.returns-in-Lost-clause-goes
returns-in-Lost-clause-goes g c left pending =
    by_lost c.args.self.now.by.by.events.engine.now.ids g.L.EngineName.recorded (g.C.Clock.Tells c.args.self.now.by.by.clock.now) c.args.self.now.by.by.call left pending
    (g.Out.Write.contents c.args.wire.w) c.args.trimming c.args.serving.now c.begin.new.self c.trim.new.self c.begin.ensures c.in-Lost.ensures.rest
    c.end_wait-in-Lost.new.serving (g.Out.Write.contents c.end_wait-in-Lost.result.1.w) c.end_wait-in-Lost.result.0 c.lost.result c.lost.ensures c.in-Lost.ensures.trims
    c.end_wait-in-Lost.ensures.ends

pub returns-in-Left-clause-goes : goal.returns-in-Left-clause-goes
returns-in-Left-clause-goes g c left pending =
    by_left c.args.self.now.by.by.events.engine.now.ids g.L.EngineName.recorded (g.C.Clock.Tells c.args.self.now.by.by.clock.now) c.args.self.now.by.by.call left pending
    (g.Out.Write.contents c.args.wire.w) c.args.trimming c.args.serving.now c.begin.new.self c.trim.new.self c.begin.ensures c.in-Left.ensures.rest
    c.in-Left.refusals c.in-Left.ensures.trims.0 _ refl refl refl
