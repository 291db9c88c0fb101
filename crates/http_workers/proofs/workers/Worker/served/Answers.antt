use Rattle.std.proofs.Common.{ℕ, List, sym, ◌∙◌, ap, subst}
use Rattle.std.specs.Io.KnownBytes.{append_known}
use Rattle.http_connections.specs.Lines.{Goes, sight}
use Rattle.http_connections.proofs.Going.{same, stays}
use Rattle.http_input.specs.Spares.{pending_of}
use Rattle.http_workers.proofs.workers.Worker.served.Goals as goal

pub returns-in_default-clause-goes : goal.returns-in_default-clause-goes
returns-in_default-clause-goes g c =
    same c.args.self.now.shared.now.engine.now.ids g.L.EngineName.recorded (g.C.Clock.Tells c.args.self.now.shared.now.clock.now) c.args.life.now.call c.args.self.now.serving.client _ _
    (ap (λ w. sight c.args.life.now.stage c.args.life.now.known (g.In.Read.remaining w.r) (pending_of c.args.came.now)
    (append_known (g.Out.Write.contents w.w) c.args.life.now.unsent)) (sym c.over.ensures.wire))

pub returns-in_default-take-clause-goes : goal.returns-in_default-take-clause-goes
returns-in_default-take-clause-goes g c =
    same c.args.self.now.shared.now.engine.now.ids g.L.EngineName.recorded (g.C.Clock.Tells c.args.self.now.shared.now.clock.now) c.args.life.now.call c.args.self.now.serving.client _ _
    (ap (λ w. sight c.args.life.now.stage c.args.life.now.known (g.In.Read.remaining w.r) (pending_of c.args.came.now)
    (append_known (g.Out.Write.contents w.w) c.args.life.now.unsent)) (sym c.over-in_default-take.ensures.wire)
    ∙ ap (λ i. sight c.args.life.now.stage c.args.life.now.known (g.In.Read.remaining c.over-in_default-take.result.wire.r) (pending_of i)
    (append_known (g.Out.Write.contents c.over-in_default-take.result.wire.w) c.args.life.now.unsent)) (sym c.take.ensures.value ∙ (c.in_default-take.ensures.none ∙ sym c.take.ensures.after)))

pub returns-clause-goes : goal.returns-clause-goes
returns-clause-goes g c =
    subst (λ (p : List ℕ). Goes c.args.self.now.shared.now.engine.now.ids g.L.EngineName.recorded (g.C.Clock.Tells c.args.self.now.shared.now.clock.now) c.args.life.now.call c.args.self.now.serving.client c.turns-visited.new.self.serving.client
    (sight c.args.life.now.stage c.args.life.now.known (g.In.Read.remaining c.args.wire.r) (pending_of c.args.came.now) (append_known (g.Out.Write.contents c.args.wire.w) c.args.life.now.unsent))
    (sight c.turns-visited.new.life.stage c.turns-visited.new.life.known (g.In.Read.remaining c.turns-visited.result.wire.r) p
    (append_known (g.Out.Write.contents c.turns-visited.result.wire.w) c.turns-visited.new.life.unsent))) (sym c.keep.ensures)
    (subst (λ (p : List ℕ). Goes c.args.self.now.shared.now.engine.now.ids g.L.EngineName.recorded (g.C.Clock.Tells c.args.self.now.shared.now.clock.now) c.args.life.now.call c.args.self.now.serving.client c.turns-visited.new.self.serving.client
    (sight c.args.life.now.stage c.args.life.now.known (g.In.Read.remaining c.args.wire.r) p (append_known (g.Out.Write.contents c.args.wire.w) c.args.life.now.unsent))
    (sight c.turns-visited.new.life.stage c.turns-visited.new.life.known (g.In.Read.remaining c.turns-visited.result.wire.r) c.turns-visited.new.input
    (append_known (g.Out.Write.contents c.turns-visited.result.wire.w) c.turns-visited.new.life.unsent)))
    (c.deref_mut.ensures.value ∙ (c.in-Some-take.ensures.input ∙ ap pending_of c.take.ensures.value))
    c.turns-visited.ensures.goes)
