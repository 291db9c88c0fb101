use Rattle.std.proofs.Common.{◌≡◌, arith, refl, sym, true, ℕ, subst}
use Rattle.trim_core.specs.declared.trimmer.Trim.{Trim}
use Rattle.trim_core.specs.Told.{told_of}
use Rattle.json_gateway.specs.Endings.{is_done}
use Rattle.http_connections.specs.Engines.{AreMadeBehind}
use Rattle.http_connections.proofs.by_engine.trim_all.Goals as goal

pub loop-init : goal.loop-init
loop-init g c = (AreMadeBehind.none, omega arith)

pub returns-in-Ok-Done : goal.returns-in-Ok-Done
returns-in-Ok-Done g c = (
  c.loop.client,
  c.loop.refusals,
  c.loop.invariant.0,
  record {
    last = c.in-Ok-Done.field-0;
    trims = c.in-Ok-Done.ensures.trims;
    ends = subst (λ (x : Trim). is_done (told_of x) ≡ true) (sym c.in-Ok-Done.field-0-is) refl;
  },
)

pub loop-preserved-in-Ok : goal.loop-preserved-in-Ok
loop-preserved-in-Ok g c = (AreMadeBehind.more c.in-Ok.field-0 c.loop.invariant.0 c.in-Ok.ensures.trims, omega arith)

pub returns-then-refusals-eq-MOST_REFUSALS : goal.returns-then-refusals-eq-MOST_REFUSALS
returns-then-refusals-eq-MOST_REFUSALS g c = subst (λ (k : ℕ). AreMadeBehind c.args.events.now.engine.now.ids c.args.client.now 0 k c.trim_once.new.client)
    c.if-refusals-eq-MOST_REFUSALS.true (AreMadeBehind.again c.loop.invariant.0 c.in-Err.ensures.trims)

pub loop-preserved : goal.loop-preserved
loop-preserved g c = (AreMadeBehind.again c.loop.invariant.0 c.in-Err.ensures.trims, omega (arith, c.loop.invariant.1, c.if-refusals-eq-MOST_REFUSALS.false))
