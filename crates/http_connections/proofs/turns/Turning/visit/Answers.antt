use Rattle.std.proofs.Common.{List, ℕ, sym, ◌∙◌, ap, subst}
use Rattle.std.specs.Io.KnownBytes.{append_known}
use Rattle.event_book.specs.Events.{Entry}
use Rattle.engine_lock.specs.Locked.{Caller}
use Rattle.http_connections.specs.Handing.{Hands}
use Rattle.http_connections.specs.Lines.{Goes, Lives, sight}
use Rattle.http_connections.specs.declared.life.Stage.{Stage}
use Rattle.http_connections.proofs.Going.{both, by_none}
use Rattle.http_connections.proofs.Lives.{learns}
use Rattle.http_connections.proofs.turns.Turning.visit.Goals as goal

pub returns-clause-goes : goal.returns-clause-goes
returns-clause-goes g c =
    subst (λ (n : ℕ). Goes c.args.self.now.by.by.events.engine.now.ids g.L.EngineName.recorded (g.C.Clock.Tells c.args.self.now.by.by.clock.now) n
    c.args.serving.now.client c.turns-turned.new.serving.client (sight c.args.life.now.stage c.args.life.now.known (g.In.Read.remaining c.args.wire.r) c.args.input.now
    (append_known (g.Out.Write.contents c.args.wire.w) c.args.life.now.unsent))
    (sight c.turns-turned.result.stage c.known.result (g.In.Read.remaining c.turns-turned.result.wire.r.inner) c.turns-turned.new.input
    (append_known (g.Out.Write.contents c.turns-turned.result.wire.w.inner) c.turns-turned.result.wire.w.unsent))) (sym c.requires)
    (subst (λ (known : List Entry). Goes c.args.self.now.by.by.events.engine.now.ids g.L.EngineName.recorded (g.C.Clock.Tells c.args.self.now.by.by.clock.now) c.args.self.now.by.by.call
    c.args.serving.now.client c.turns-turned.new.serving.client (sight c.args.life.now.stage c.args.life.now.known (g.In.Read.remaining c.args.wire.r) c.args.input.now
    (append_known (g.Out.Write.contents c.args.wire.w) c.args.life.now.unsent))
    (sight c.turns-turned.result.stage known (g.In.Read.remaining c.turns-turned.result.wire.r.inner) c.turns-turned.new.input
    (append_known (g.Out.Write.contents c.turns-turned.result.wire.w.inner) c.turns-turned.result.wire.w.unsent)))
    (sym (c.known.ensures ∙ ap (λ (s : Hands). s.client.reader.known) c.serving-2.view_is))
    (both c.args.self.now.by.by.events.engine.now.ids g.L.EngineName.recorded (g.C.Clock.Tells c.args.self.now.by.by.clock.now) c.args.self.now.by.by.call
    c.args.serving.now.client c.know.new.self c.turns-turned.new.serving.client (sight c.args.life.now.stage c.args.life.now.known (g.In.Read.remaining c.args.wire.r) c.args.input.now
    (append_known (g.Out.Write.contents c.args.wire.w) c.args.life.now.unsent))
    (sight c.replace-stage.result c.know.new.self.reader.known (g.In.Read.remaining c.args.wire.r) c.args.input.now
    (append_known (g.Out.Write.contents c.args.wire.w) c.replace-unsent.result)) _
    (by_none c.args.self.now.by.by.events.engine.now.ids g.L.EngineName.recorded (g.C.Clock.Tells c.args.self.now.by.by.clock.now) c.args.self.now.by.by.call
    c.args.serving.now.client c.know.new.self (sight c.args.life.now.stage c.args.life.now.known (g.In.Read.remaining c.args.wire.r) c.args.input.now
    (append_known (g.Out.Write.contents c.args.wire.w) c.args.life.now.unsent))
    (sight c.replace-stage.result c.know.new.self.reader.known (g.In.Read.remaining c.args.wire.r) c.args.input.now
    (append_known (g.Out.Write.contents c.args.wire.w) c.replace-unsent.result))
    (ap (λ (c : Caller). c.holder) c.know.ensures.others ∙ ap (λ (s : Hands). s.client.holder) c.serving.view_is)
    (λ begun made h. subst (λ (x : Stage). Lives c.args.self.now.by.by.events.engine.now.ids g.L.EngineName.recorded (g.C.Clock.Tells c.args.self.now.by.by.clock.now) c.args.self.now.by.by.call begun
    c.know.new.self.reader.known made (g.In.Read.remaining c.args.wire.r) c.args.input.now (append_known (g.Out.Write.contents c.args.wire.w) c.replace-unsent.result) x)
    (sym c.replace-stage.ensures.value)
    (subst (λ (unsent : List ℕ). Lives c.args.self.now.by.by.events.engine.now.ids g.L.EngineName.recorded (g.C.Clock.Tells c.args.self.now.by.by.clock.now) c.args.self.now.by.by.call begun
    c.know.new.self.reader.known made (g.In.Read.remaining c.args.wire.r) c.args.input.now (append_known (g.Out.Write.contents c.args.wire.w) unsent) c.args.life.now.stage)
    (sym c.replace-unsent.ensures.value)
    (learns c.args.self.now.by.by.events.engine.now.ids g.L.EngineName.recorded (g.C.Clock.Tells c.args.self.now.by.by.clock.now) c.args.self.now.by.by.call begun
    c.args.life.now.known c.know.new.self.reader.known made (g.In.Read.remaining c.args.wire.r) c.args.input.now
    (append_known (g.Out.Write.contents c.args.wire.w) c.args.life.now.unsent)
    c.args.life.now.stage c.know.ensures.knows h))))
    c.turns-turned.ensures.goes))
