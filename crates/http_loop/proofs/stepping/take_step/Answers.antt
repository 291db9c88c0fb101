use Rattle.std.proofs.Common.{Option, sym, ◌∙◌}
use Rattle.http_head.specs.declared.head.Head.{Head}
use Rattle.http_reply.specs.Counts.{failures_of}
use Rattle.http_loop.specs.declared.stepping.Step.{Step}
use Rattle.http_loop.specs.Answered.{IsAnswered}
use Rattle.http_loop.specs.Stepped.{AtOnce}
use Rattle.http_loop.proofs.Steps.{dried, stepped}
use Rattle.http_loop.proofs.Turns.{declined, ended, reads_told, writes_told}
use Rattle.http_loop.proofs.stepping.take_step.Goals as goal

pub returns-in-Ok-Some-clause-steps : goal.returns-in-Ok-Some-clause-steps
returns-in-Ok-Some-clause-steps g c =
    stepped _ (g.A.Answering.Answers c.args.by.now) (g.A.Answering.Tells c.args.by.now) (g.A.Answering.Finishes c.args.by.now) c.args.state.now c.begin-begun.new.state
    _ _ _ _ c.in-Ok-Some.ensures.kept c.in-Ok-Some.ensures.took _ c.in-Ok-Some.head c.in-Ok-Some.field-0 c.in-Ok-Some.field-0-is c.in-Ok-Some.ensures.came
    c.pass.ensures _ c.request.ensures _ _ c.begin-begun.result c.begin-begun.ensures.begun

pub returns-in-Ok-None-clause-steps : goal.returns-in-Ok-None-clause-steps
returns-in-Ok-None-clause-steps g c =
    ended _ (IsAnswered _ (AtOnce (g.A.Answering.Answers c.args.by.now)) (g.A.Answering.Tells c.args.by.now) (g.A.Answering.Finishes c.args.by.now)) c.args.state.now c.args.state.now
    _ _ _ _ c.in-Ok-None.ensures.kept c.in-Ok-None.ensures.took _ c.in-Ok-None.field-0 c.in-Ok-None.field-0-is c.in-Ok-None.ensures.came

pub returns-in-Err-clause-steps : goal.returns-in-Err-clause-steps
returns-in-Err-clause-steps g c =
    declined _ (IsAnswered _ (AtOnce (g.A.Answering.Answers c.args.by.now)) (g.A.Answering.Tells c.args.by.now) (g.A.Answering.Finishes c.args.by.now)) c.args.state.now c.args.state.now
    _ _ _ _ c.in-Err.ensures.kept c.in-Err.ensures.took _ _ _ _ c.decline.result c.in-Err.front c.in-Err.ensures.came c.decline.ensures

pub returns-in-Err-clause-dry : goal.returns-in-Err-clause-dry
returns-in-Err-clause-dry g c is =
    dried _ c.args.state.now
    _ _ _ _ c.in-Err.ensures.kept c.in-Err.ensures.took _ _ _ _ c.decline.result c.in-Err.front c.decline.ensures is

pub returns-in-Err-clause-reads : goal.returns-in-Err-clause-reads
returns-in-Err-clause-reads g c =
    c.in-Err.ensures.failures ∙ sym (reads_told Step (Option Head) c.in-Err.front c.decline.result _ _ _ _ (failures_of c.args.r.now) c.decline.ensures)

pub returns-in-Err-clause-writes : goal.returns-in-Err-clause-writes
returns-in-Err-clause-writes g c = writes_told Step Step c.in-Err.front c.decline.result _ _ _ _ _ _ c.in-Err.ensures.came c.decline.ensures
