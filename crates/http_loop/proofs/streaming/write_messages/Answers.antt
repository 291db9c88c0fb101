use Rattle.std.proofs.Common.{◌-◌, arith, refl, ◌∙◌}
use Rattle.http_loop.proofs.Chunks.{away, cut, ends_spent, none_yet, on, quiet, untold}
use Rattle.http_loop.proofs.streaming.write_messages.Goals as goal

pub loop-left-init : goal.loop-left-init
loop-left-init g c = (refl, none_yet _ (g.A.Answering.Tells c.args.by.now) c.args.number c.args.state.now _)

pub loop-left-preserved : goal.loop-left-preserved
loop-left-preserved g c = (
  c.in-Ok.ensures.failures ∙ c.loop-left.invariant.0,
  on _ (g.A.Answering.Tells c.args.by.now) c.args.number c.args.state.now _ _ _ c.loop-left.left (c.loop-left.left - 1) (omega (arith, c.loop-left-test.true)) c.loop-left.state _
      c.loop-left.invariant.1 _ c.in-Text.ensures c.in-Ok.field-0 c.in-Text.text c.as_slice.result.now refl c.as_slice.ensures.value c.in-Ok.ensures.writes,
)

pub returns-in-Err-clause-does : goal.returns-in-Err-clause-does
returns-in-Err-clause-does g c =
    cut _ (g.A.Answering.Tells c.args.by.now) c.args.number c.args.state.now _ _ _ c.loop-left.left (c.loop-left.left - 1) (omega (arith, c.loop-left-test.true)) c.loop-left.state
    c.tell.new.state c.loop-left.invariant.1 _ c.in-Text.ensures c.in-Err.front c.in-Text.text c.as_slice.result.now refl c.as_slice.ensures.value c.in-Err.ensures.writes

pub returns-in-End-clause-does : goal.returns-in-End-clause-does
returns-in-End-clause-does g c =
    quiet _ (g.A.Answering.Tells c.args.by.now) c.args.number c.args.state.now _ _ _ c.loop-left.left (c.loop-left.left - 1) (omega (arith, c.loop-left-test.true)) c.loop-left.state
    c.tell.new.state c.loop-left.invariant.1 _ c.in-End.ensures c.write_end.result refl c.write_end.ensures.writes

pub returns-in-Memory-clause-does : goal.returns-in-Memory-clause-does
returns-in-Memory-clause-does g c =
    untold _ (g.A.Answering.Tells c.args.by.now) c.args.number c.args.state.now _ _ c.loop-left.left (c.loop-left.left - 1) (omega (arith, c.loop-left-test.true)) c.loop-left.state
    c.tell.new.state c.loop-left.invariant.1 _ c.in-Memory.ensures refl

pub returns-in-Away-clause-does : goal.returns-in-Away-clause-does
returns-in-Away-clause-does g c =
    away _ (g.A.Answering.Tells c.args.by.now) c.args.number c.args.state.now _ _ c.loop-left.left (c.loop-left.left - 1) (omega (arith, c.loop-left-test.true)) c.loop-left.state
    c.tell.new.state c.loop-left.invariant.1 _ c.in-Away.ensures refl

pub returns-clause-does : goal.returns-clause-does
returns-clause-does g c =
    ends_spent _ (g.A.Answering.Tells c.args.by.now) c.args.number c.args.state.now _ _ _ c.loop-left.left c.loop-left.state c.loop-left.invariant.1 c.write_end-2.result
    (omega (arith, c.loop-left-test.false)) c.write_end-2.ensures.writes
