use Rattle.std.proofs.Common.{ap}
use Rattle.http_connections.proofs.Lives.{read}
use Rattle.http_connections.proofs.turns.Turning.read.Goals as goal

pub returns : goal.returns
returns g c = record {
  goes = read c.args.self.now.by.by.events.engine.now.ids g.L.EngineName.recorded (g.C.Clock.Tells c.args.self.now.by.by.clock.now) c.args.self.now.by.by.call
      c.args.serving.now c.begin.new.self c.take_step-stepped.new.state c.begin.ensures _ _ _ _ _ _ _ _ _ _
      (ap (λ r. g.In.Read.remaining r.inner) c.new-r.ensures.inner) (ap (λ w. g.Out.Write.contents w) c.new-w.ensures.inner)
      (ap (λ r. g.In.Read.remaining r.inner) c.into_inner.ensures) (ap (λ w. g.Out.Write.contents w) c.into_inner-2.ensures)
      c.take_step-stepped.result c.take_step-stepped.ensures.steps c.take_step-stepped.ensures.dry _ c.stage_behind.result c.stage_behind.ensures;
}
