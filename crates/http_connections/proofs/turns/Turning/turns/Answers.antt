use Rattle.std.proofs.Common.{◌≡◌, Option, List, ℕ, sym, ap, subst}
use Rattle.std.specs.Io.KnownBytes.{append_known}
use Rattle.http_connections.specs.Lines.{Goes, sight}
use Rattle.http_connections.proofs.Going.{both, stays}
use Rattle.http_connections.proofs.turns.Turning.turns.Goals as goal
use Rattle.http_connections.proofs.turns.Turning.turns.Goals.{in-Again, in-Reads}

pub loop-count-init : goal.loop-count-init
loop-count-init g c = stays c.args.self.now.by.by.events.engine.now.ids g.L.EngineName.recorded (g.C.Clock.Tells c.args.self.now.by.by.clock.now) c.args.self.now.by.by.call c.args.serving.now.client _

pub returns-in_default-clause-goes : goal.returns-in_default-clause-goes
returns-in_default-clause-goes g c =
    subst (λ t. Goes c.args.self.now.by.by.events.engine.now.ids g.L.EngineName.recorded (g.C.Clock.Tells c.args.self.now.by.by.clock.now) c.args.self.now.by.by.call
    c.args.serving.now.client c.turn-turned.new.serving.client (sight c.args.stage c.args.serving.now.client.reader.known (g.In.Read.remaining c.args.wire.r.inner) c.args.input.now
    (append_known (g.Out.Write.contents c.args.wire.w.inner) c.args.wire.w.unsent))
    (sight t.stage c.turn-turned.new.serving.client.reader.known (g.In.Read.remaining t.wire.r.inner) c.turn-turned.new.input
    (append_known (g.Out.Write.contents t.wire.w.inner) t.wire.w.unsent)))
    (sym c.turned.ensures) (both c.args.self.now.by.by.events.engine.now.ids g.L.EngineName.recorded (g.C.Clock.Tells c.args.self.now.by.by.clock.now) c.args.self.now.by.by.call
    c.args.serving.now.client c.loop-count.serving.client c.turn-turned.new.serving.client (sight c.args.stage c.args.serving.now.client.reader.known (g.In.Read.remaining c.args.wire.r.inner) c.args.input.now
    (append_known (g.Out.Write.contents c.args.wire.w.inner) c.args.wire.w.unsent))
    (sight c.loop-count.stage c.loop-count.serving.client.reader.known (g.In.Read.remaining c.loop-count.wire.r.inner) c.loop-count.input
    (append_known (g.Out.Write.contents c.loop-count.wire.w.inner) c.loop-count.wire.w.unsent))
    (sight c.turn-turned.result.stage c.turn-turned.new.serving.client.reader.known (g.In.Read.remaining c.turn-turned.result.wire.r.inner) c.turn-turned.new.input
    (append_known (g.Out.Write.contents c.turn-turned.result.wire.w.inner) c.turn-turned.result.wire.w.unsent)) c.loop-count.invariant c.turn-turned.ensures.goes)

pub loop-count-preserved : goal.loop-count-preserved
loop-count-preserved g c =
    let left : g.In.Read.remaining c.match-turned.wire.r.inner ≡ g.In.Read.remaining c.turn-turned.result.wire.r.inner =
    elim c.match-turned.branch [ in-Again w ↦ ap (λ x. g.In.Read.remaining x.r.inner) w.wire-is | in-Reads w ↦ ap (λ x. g.In.Read.remaining x.r.inner) w.wire-is ] in
    let wrote : append_known (g.Out.Write.contents c.match-turned.wire.w.inner) c.match-turned.wire.w.unsent
    ≡ append_known (g.Out.Write.contents c.turn-turned.result.wire.w.inner) c.turn-turned.result.wire.w.unsent =
    elim c.match-turned.branch [
      | in-Again w ↦ ap (λ x. append_known (g.Out.Write.contents x.w.inner) x.w.unsent) w.wire-is
      | in-Reads w ↦ ap (λ x. append_known (g.Out.Write.contents x.w.inner) x.w.unsent) w.wire-is
    ] in
    subst (λ (l : Option (List ℕ)). Goes c.args.self.now.by.by.events.engine.now.ids g.L.EngineName.recorded (g.C.Clock.Tells c.args.self.now.by.by.clock.now) c.args.self.now.by.by.call
    c.args.serving.now.client c.turn-turned.new.serving.client (sight c.args.stage c.args.serving.now.client.reader.known (g.In.Read.remaining c.args.wire.r.inner) c.args.input.now
    (append_known (g.Out.Write.contents c.args.wire.w.inner) c.args.wire.w.unsent))
    (sight c.turn-turned.result.stage c.turn-turned.new.serving.client.reader.known l c.turn-turned.new.input
    (append_known (g.Out.Write.contents c.match-turned.wire.w.inner) c.match-turned.wire.w.unsent))) (sym left)
    (subst (λ (o : Option (List ℕ)). Goes c.args.self.now.by.by.events.engine.now.ids g.L.EngineName.recorded (g.C.Clock.Tells c.args.self.now.by.by.clock.now) c.args.self.now.by.by.call
    c.args.serving.now.client c.turn-turned.new.serving.client (sight c.args.stage c.args.serving.now.client.reader.known (g.In.Read.remaining c.args.wire.r.inner) c.args.input.now
    (append_known (g.Out.Write.contents c.args.wire.w.inner) c.args.wire.w.unsent))
    (sight c.turn-turned.result.stage c.turn-turned.new.serving.client.reader.known (g.In.Read.remaining c.turn-turned.result.wire.r.inner) c.turn-turned.new.input o))
    (sym wrote) (both c.args.self.now.by.by.events.engine.now.ids g.L.EngineName.recorded (g.C.Clock.Tells c.args.self.now.by.by.clock.now) c.args.self.now.by.by.call
    c.args.serving.now.client c.loop-count.serving.client c.turn-turned.new.serving.client (sight c.args.stage c.args.serving.now.client.reader.known (g.In.Read.remaining c.args.wire.r.inner) c.args.input.now
    (append_known (g.Out.Write.contents c.args.wire.w.inner) c.args.wire.w.unsent))
    (sight c.loop-count.stage c.loop-count.serving.client.reader.known (g.In.Read.remaining c.loop-count.wire.r.inner) c.loop-count.input
    (append_known (g.Out.Write.contents c.loop-count.wire.w.inner) c.loop-count.wire.w.unsent))
    (sight c.turn-turned.result.stage c.turn-turned.new.serving.client.reader.known (g.In.Read.remaining c.turn-turned.result.wire.r.inner) c.turn-turned.new.input
    (append_known (g.Out.Write.contents c.turn-turned.result.wire.w.inner) c.turn-turned.result.wire.w.unsent)) c.loop-count.invariant c.turn-turned.ensures.goes))

pub returns-clause-goes : goal.returns-clause-goes
returns-clause-goes g c =
    subst (λ t. Goes c.args.self.now.by.by.events.engine.now.ids g.L.EngineName.recorded (g.C.Clock.Tells c.args.self.now.by.by.clock.now) c.args.self.now.by.by.call
    c.args.serving.now.client c.loop-count.serving.client (sight c.args.stage c.args.serving.now.client.reader.known (g.In.Read.remaining c.args.wire.r.inner) c.args.input.now
    (append_known (g.Out.Write.contents c.args.wire.w.inner) c.args.wire.w.unsent))
    (sight t.stage c.loop-count.serving.client.reader.known (g.In.Read.remaining t.wire.r.inner) c.loop-count.input
    (append_known (g.Out.Write.contents t.wire.w.inner) t.wire.w.unsent)))
    (sym c.turned-2.ensures) c.loop-count.invariant
