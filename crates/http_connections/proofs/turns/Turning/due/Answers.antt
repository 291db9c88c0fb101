use Rattle.std.proofs.Common.{sym, ◌∙◌, ap}
use Rattle.http_connections.specs.Lines.{sight}
use Rattle.http_connections.proofs.Going.{same}
use Rattle.http_connections.proofs.turns.Turning.due.Goals as goal

pub returns-in-Reading-clause-goes : goal.returns-in-Reading-clause-goes
returns-in-Reading-clause-goes g c =
    same c.args.self.now.by.by.events.engine.now.ids g.L.EngineName.recorded (g.C.Clock.Tells c.args.self.now.by.by.clock.now) c.args.self.now.by.by.call
    c.args.serving.now.client _ _
    ((λ i. sight (c.in-Reading.is i) c.args.serving.now.client.reader.known (g.In.Read.remaining c.args.wire.r.inner) c.args.input.now (g.Out.Write.contents c.args.wire.w))
    ∙ ap (λ t. sight t.stage c.args.serving.now.client.reader.known (g.In.Read.remaining t.wire.r.inner) c.args.input.now (g.Out.Write.contents t.wire.w)) (sym c.turned.ensures))

pub returns-in-Streaming-clause-goes : goal.returns-in-Streaming-clause-goes
returns-in-Streaming-clause-goes g c =
    same c.args.self.now.by.by.events.engine.now.ids g.L.EngineName.recorded (g.C.Clock.Tells c.args.self.now.by.by.clock.now) c.args.self.now.by.by.call
    c.args.serving.now.client _ _
    ((λ i. sight (c.in-Streaming.is i) c.args.serving.now.client.reader.known (g.In.Read.remaining c.args.wire.r.inner) c.args.input.now (g.Out.Write.contents c.args.wire.w))
    ∙ ap (λ t. sight t.stage c.args.serving.now.client.reader.known (g.In.Read.remaining t.wire.r.inner) c.args.input.now (g.Out.Write.contents t.wire.w)) (sym c.turned-in-Streaming.ensures))

pub returns-in-Closing-clause-goes : goal.returns-in-Closing-clause-goes
returns-in-Closing-clause-goes g c =
    same c.args.self.now.by.by.events.engine.now.ids g.L.EngineName.recorded (g.C.Clock.Tells c.args.self.now.by.by.clock.now) c.args.self.now.by.by.call
    c.args.serving.now.client _ _
    ((λ i. sight (c.in-Closing.is i) c.args.serving.now.client.reader.known (g.In.Read.remaining c.args.wire.r.inner) c.args.input.now (g.Out.Write.contents c.args.wire.w))
    ∙ ap (λ t. sight t.stage c.args.serving.now.client.reader.known (g.In.Read.remaining t.wire.r.inner) c.args.input.now (g.Out.Write.contents t.wire.w)) (sym c.turned-in-Closing.ensures))
