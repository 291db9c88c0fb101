use Rattle.std.proofs.Common.{arith, refl, ◌∙◌}
use Rattle.http_loop.specs.Answered.{IsAnswered}
use Rattle.http_loop.proofs.Conns.{at_limit, end, failed, last, on, start}
use Rattle.http_loop.proofs.Turns.{turns}
use Rattle.http_loop.proofs.serving.serve.Goals as goal

pub loop-count-init : goal.loop-count-init
loop-count-init g c = (omega arith, refl, refl, start _ (IsAnswered _ (g.A.Answering.Answers c.args.by.now) (g.A.Answering.Tells c.args.by.now) (g.A.Answering.Finishes c.args.by.now)) _ _ c.args.state.now _)

pub loop-count-preserved : goal.loop-count-preserved
loop-count-preserved g c = (
  omega (arith, c.loop-count-test.true),
  c.in-Ok-More.ensures.reads ∙ c.loop-count.invariant.1,
  c.in-Ok-More.ensures.writes ∙ c.loop-count.invariant.2,
  on _ (IsAnswered _ (g.A.Answering.Answers c.args.by.now) (g.A.Answering.Tells c.args.by.now) (g.A.Answering.Finishes c.args.by.now)) _ _ _ _ c.loop-count.count _ _ c.args.state.now c.loop-count.state
      c.loop-count.invariant.3 _ _ _ _ c.in-Ok-More.field-0 c.in-Ok-More.field-0-is
      (turns _ (IsAnswered _ (g.A.Answering.Answers c.args.by.now) (g.A.Answering.Tells c.args.by.now) (g.A.Answering.Finishes c.args.by.now)) _ _ _ c.in-Ok-More.ensures.turns),
)

pub returns-in-Ok-Last-clause-serves : goal.returns-in-Ok-Last-clause-serves
returns-in-Ok-Last-clause-serves g c =
    last _ (IsAnswered _ (g.A.Answering.Answers c.args.by.now) (g.A.Answering.Tells c.args.by.now) (g.A.Answering.Finishes c.args.by.now)) _ _ _ _ c.loop-count.count _ _ c.args.state.now c.loop-count.state
    c.loop-count.invariant.3 _ _ _ _ c.args.limit c.in-Ok-Last.field-0 c.in-Ok-Last.field-0-is c.loop-count-test.true
    (turns _ (IsAnswered _ (g.A.Answering.Answers c.args.by.now) (g.A.Answering.Tells c.args.by.now) (g.A.Answering.Finishes c.args.by.now)) _ _ _ c.in-Ok-Last.ensures.turns)

pub returns-in-Ok-End-clause-serves : goal.returns-in-Ok-End-clause-serves
returns-in-Ok-End-clause-serves g c =
    end _ (IsAnswered _ (g.A.Answering.Answers c.args.by.now) (g.A.Answering.Tells c.args.by.now) (g.A.Answering.Finishes c.args.by.now)) _ _ _ _ c.loop-count.count _ _ c.args.state.now c.loop-count.state
    c.loop-count.invariant.3 _ _ _ _ c.args.limit c.in-Ok-End.field-0 c.in-Ok-End.field-0-is c.loop-count-test.true
    (turns _ (IsAnswered _ (g.A.Answering.Answers c.args.by.now) (g.A.Answering.Tells c.args.by.now) (g.A.Answering.Finishes c.args.by.now)) _ _ _ c.in-Ok-End.ensures.turns)

pub returns-in-Err-clause-serves : goal.returns-in-Err-clause-serves
returns-in-Err-clause-serves g c = failed _ (IsAnswered _ (g.A.Answering.Answers c.args.by.now) (g.A.Answering.Tells c.args.by.now) (g.A.Answering.Finishes c.args.by.now)) _ _ _ _ c.loop-count.count _ _ c.args.state.now c.loop-count.state
    c.loop-count.invariant.3 _ _ _ _ c.args.limit c.in-Err.front c.loop-count-test.true
    (turns _ (IsAnswered _ (g.A.Answering.Answers c.args.by.now) (g.A.Answering.Tells c.args.by.now) (g.A.Answering.Finishes c.args.by.now)) _ _ _ c.in-Err.ensures.turns)

pub returns-clause-serves : goal.returns-clause-serves
returns-clause-serves g c = at_limit _ (IsAnswered _ (g.A.Answering.Answers c.args.by.now) (g.A.Answering.Tells c.args.by.now) (g.A.Answering.Finishes c.args.by.now)) _ _ _ _ c.loop-count.count _ _ c.args.state.now c.loop-count.state
    c.loop-count.invariant.3 c.args.limit c.loop-count.invariant.0 (omega (arith, c.loop-count-test.false))
