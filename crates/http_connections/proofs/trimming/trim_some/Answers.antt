use Rattle.std.proofs.Common.{◌≡◌, ◌<◌, ℕ, arith, refl, sym, true, subst}
use Rattle.trim_core.specs.declared.trimmer.Trim.{Trim}
use Rattle.trim_core.specs.Told.{told_of}
use Rattle.json_gateway.specs.Endings.{is_done}
use Rattle.http_connections.specs.Engines.{AreMadeBehind}
use Rattle.http_connections.proofs.trimming.trim_some.Goals as goal
use Rattle.http_connections.proofs.trimming.trim_some.Goals.{in-Ok, in-Err+else-refusals-eq-MOST_REFUSALS}

pub loop-init : goal.loop-init
loop-init g c = (AreMadeBehind.none, c.requires)

pub returns-in-Ok-Done : goal.returns-in-Ok-Done
returns-in-Ok-Done g c = (
  c.loop.client,
  c.loop.refusals,
  c.loop.invariant.0,
  record {
    last = c.in-Ok-Done.field-0;
    trims = c.in-Ok-Done.ensures.trims;
    ends = subst (λ (x : Trim). is_done (told_of x) ≡ true) (sym c.in-Ok-Done.field-0-is) refl;
  },
)

pub returns-then-refusals-eq-MOST_REFUSALS : goal.returns-then-refusals-eq-MOST_REFUSALS
returns-then-refusals-eq-MOST_REFUSALS g c = subst (λ (k : ℕ). AreMadeBehind c.args.events.now.engine.now.ids c.args.client.now c.args.refusals k c.trim_once.new.client)
    c.if-refusals-eq-MOST_REFUSALS.true (AreMadeBehind.again c.loop.invariant.0 c.in-Err.ensures.trims)

pub loop-preserved : goal.loop-preserved
loop-preserved g c = elim c.match-trim_once.branch [
  | in-Ok w ↦ subst (λ (k : ℕ). AreMadeBehind c.args.events.now.engine.now.ids c.args.client.now c.args.refusals k c.trim_once.new.client × (k < 1000))
      (sym w.refusals-is) (AreMadeBehind.more w.in-Ok.field-0 c.loop.invariant.0 w.in-Ok.ensures.trims, omega arith)
  | in-Err+else-refusals-eq-MOST_REFUSALS w ↦ subst (λ (k : ℕ). AreMadeBehind c.args.events.now.engine.now.ids c.args.client.now c.args.refusals k c.trim_once.new.client × (k < 1000))
      (sym w.refusals-is) (AreMadeBehind.again c.loop.invariant.0 w.in-Err.ensures.trims, omega (arith, c.loop.invariant.1, w.if-refusals-eq-MOST_REFUSALS.false))
]
