use Rattle.std.proofs.Common.{sym, subst}
use Rattle.json_gateway.specs.declared.outcome.Outcome.{Outcome}
use Rattle.engine_lock.specs.Locked.{Caller}
use Rattle.http_connections.specs.Engines.{AreTrimmed, Awaits}
use Rattle.http_connections.proofs.by_engine.awaited.Goals as goal

pub returns-then-trim_all : goal.returns-then-trim_all
returns-then-trim_all g c = Awaits.behind c.if-submitted.true c.if-trim_all.ensures

pub returns-then-submitted : goal.returns-then-submitted
returns-then-submitted g c = subst (λ (x : Outcome). Awaits Caller (AreTrimmed c.args.events.now.engine.now.ids 0) c.args.submitted x c.args.client.now c.trim_all.new.client)
    (sym c.lost.ensures) (Awaits.lost c.if-submitted.true c.if-trim_all.ensures)

pub returns : goal.returns
returns g c = Awaits.at_once c.if-submitted.false
