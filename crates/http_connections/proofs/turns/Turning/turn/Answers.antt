use Rattle.std.proofs.Common.{Option, List, ℕ, refl, sym, ap, subst}
use Rattle.std.specs.Io.KnownBytes.{append_known}
use Rattle.http_connections.specs.Lines.{Goes, Lives, sight}
use Rattle.http_connections.proofs.Going.{both, by_none}
use Rattle.http_connections.proofs.Lives.{sent}
use Rattle.http_connections.proofs.turns.Turning.turn.Goals as goal

pub returns-in-Some-clause-goes : goal.returns-in-Some-clause-goes
returns-in-Some-clause-goes g c =
    subst (λ t. Goes c.args.self.now.by.by.events.engine.now.ids g.L.EngineName.recorded (g.C.Clock.Tells c.args.self.now.by.by.clock.now) c.args.self.now.by.by.call
    c.args.serving.now.client c.args.serving.now.client (sight c.args.stage c.args.serving.now.client.reader.known (g.In.Read.remaining c.args.wire.r.inner) c.args.input.now
    (append_known (g.Out.Write.contents c.args.wire.w.inner) c.args.wire.w.unsent))
    (sight t.stage c.args.serving.now.client.reader.known (g.In.Read.remaining t.wire.r.inner) c.args.input.now (append_known (g.Out.Write.contents t.wire.w.inner) t.wire.w.unsent)))
    (sym c.turned.ensures)
    (by_none c.args.self.now.by.by.events.engine.now.ids g.L.EngineName.recorded (g.C.Clock.Tells c.args.self.now.by.by.clock.now) c.args.self.now.by.by.call
    c.args.serving.now.client c.args.serving.now.client (sight c.args.stage c.args.serving.now.client.reader.known (g.In.Read.remaining c.args.wire.r.inner) c.args.input.now
    (append_known (g.Out.Write.contents c.args.wire.w.inner) c.args.wire.w.unsent))
    (sight c.args.stage c.args.serving.now.client.reader.known (g.In.Read.remaining c.sent-wants.result.1.r.inner) c.args.input.now
    (append_known (g.Out.Write.contents c.sent-wants.result.1.w.inner) c.sent-wants.result.1.w.unsent)) refl
    (λ begun made h. subst (λ (l : Option (List ℕ)). Lives c.args.self.now.by.by.events.engine.now.ids g.L.EngineName.recorded (g.C.Clock.Tells c.args.self.now.by.by.clock.now) c.args.self.now.by.by.call begun
    c.args.serving.now.client.reader.known made l c.args.input.now
    (append_known (g.Out.Write.contents c.sent-wants.result.1.w.inner) c.sent-wants.result.1.w.unsent) c.args.stage)
    (sym (ap (λ r. g.In.Read.remaining r.inner) c.sent-wants.ensures.reader))
    (sent c.args.self.now.by.by.events.engine.now.ids g.L.EngineName.recorded (g.C.Clock.Tells c.args.self.now.by.by.clock.now) c.args.self.now.by.by.call begun
    c.args.serving.now.client.reader.known made _ c.args.input.now _ _ c.args.stage c.sent-wants.ensures.same h)))

pub returns-clause-goes : goal.returns-clause-goes
returns-clause-goes g c = both c.args.self.now.by.by.events.engine.now.ids g.L.EngineName.recorded (g.C.Clock.Tells c.args.self.now.by.by.clock.now) c.args.self.now.by.by.call
    c.args.serving.now.client c.args.serving.now.client c.due.new.serving.client (sight c.args.stage c.args.serving.now.client.reader.known (g.In.Read.remaining c.args.wire.r.inner) c.args.input.now
    (append_known (g.Out.Write.contents c.args.wire.w.inner) c.args.wire.w.unsent))
    (sight c.args.stage c.args.serving.now.client.reader.known (g.In.Read.remaining c.sent-wants.result.1.r.inner) c.args.input.now
    (append_known (g.Out.Write.contents c.sent-wants.result.1.w.inner) c.sent-wants.result.1.w.unsent)) _
    (by_none c.args.self.now.by.by.events.engine.now.ids g.L.EngineName.recorded (g.C.Clock.Tells c.args.self.now.by.by.clock.now) c.args.self.now.by.by.call
    c.args.serving.now.client c.args.serving.now.client (sight c.args.stage c.args.serving.now.client.reader.known (g.In.Read.remaining c.args.wire.r.inner) c.args.input.now
    (append_known (g.Out.Write.contents c.args.wire.w.inner) c.args.wire.w.unsent))
    (sight c.args.stage c.args.serving.now.client.reader.known (g.In.Read.remaining c.sent-wants.result.1.r.inner) c.args.input.now
    (append_known (g.Out.Write.contents c.sent-wants.result.1.w.inner) c.sent-wants.result.1.w.unsent)) refl
    (λ begun made h. subst (λ (l : Option (List ℕ)). Lives c.args.self.now.by.by.events.engine.now.ids g.L.EngineName.recorded (g.C.Clock.Tells c.args.self.now.by.by.clock.now) c.args.self.now.by.by.call begun
    c.args.serving.now.client.reader.known made l c.args.input.now
    (append_known (g.Out.Write.contents c.sent-wants.result.1.w.inner) c.sent-wants.result.1.w.unsent) c.args.stage)
    (sym (ap (λ r. g.In.Read.remaining r.inner) c.sent-wants.ensures.reader))
    (sent c.args.self.now.by.by.events.engine.now.ids g.L.EngineName.recorded (g.C.Clock.Tells c.args.self.now.by.by.clock.now) c.args.self.now.by.by.call begun
    c.args.serving.now.client.reader.known made _ c.args.input.now _ _ c.args.stage c.sent-wants.ensures.same h)))
    c.due.ensures.goes
