use Rattle.std.specs.Io.KnownBytes.{append_known}
use Rattle.http_connections.specs.Lines.{Goes, sight}
use Rattle.http_connections.proofs.turns.Turning.turns.Given as goal

abbrev pub invariant-loop-count : goal.invariant-loop-count
invariant-loop-count g l = Goes l.self.by.by.events.engine.now.ids g.L.EngineName.recorded (g.C.Clock.Tells l.self.by.by.clock.now) l.self.by.by.call
    l.fn.serving.client l.serving.client (sight l.fn.stage l.fn.serving.client.reader.known (g.In.Read.remaining l.fn.wire.r.inner) l.fn.input (append_known (g.Out.Write.contents l.fn.wire.w.inner) l.fn.wire.w.unsent))
    (sight l.stage l.serving.client.reader.known (g.In.Read.remaining l.wire.r.inner) l.input (append_known (g.Out.Write.contents l.wire.w.inner) l.wire.w.unsent))
