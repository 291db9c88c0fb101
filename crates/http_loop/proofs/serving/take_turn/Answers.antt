use Rattle.std.proofs.Common.{Option, sym, ◌∙◌}
use Rattle.http_head.specs.declared.head.Head.{Head}
use Rattle.http_reply.specs.Counts.{failures_of}
use Rattle.http_loop.specs.declared.writing.Turn.{Turn}
use Rattle.http_loop.specs.Answered.{IsAnswered}
use Rattle.http_loop.proofs.Texts.{reads_asked}
use Rattle.http_loop.proofs.Turns.{asked, declined, ended, reads_told, writes_told}
use Rattle.http_loop.proofs.serving.take_turn.Goals as goal

pub returns-in-Ok-Some-clause-turns : goal.returns-in-Ok-Some-clause-turns
returns-in-Ok-Some-clause-turns g c =
    asked _ (IsAnswered _ (g.A.Answering.Answers c.args.by.now) (g.A.Answering.Tells c.args.by.now) (g.A.Answering.Finishes c.args.by.now)) c.args.state.now c.answer-answered.new.state
    _ _ _ _ c.in-Ok-Some.ensures.kept c.in-Ok-Some.ensures.took _ c.in-Ok-Some.head c.in-Ok-Some.field-0 c.in-Ok-Some.field-0-is c.in-Ok-Some.ensures.came
    c.pass.ensures _ c.request.ensures _ _
    c.answer-answered.result c.turn_after.result
    c.turn_after.ensures c.answer-answered.ensures.does

pub returns-in-Ok-None-clause-turns : goal.returns-in-Ok-None-clause-turns
returns-in-Ok-None-clause-turns g c =
    ended _ (IsAnswered _ (g.A.Answering.Answers c.args.by.now) (g.A.Answering.Tells c.args.by.now) (g.A.Answering.Finishes c.args.by.now)) c.args.state.now c.args.state.now
    _ _ _ _ c.in-Ok-None.ensures.kept c.in-Ok-None.ensures.took _ c.in-Ok-None.field-0 c.in-Ok-None.field-0-is c.in-Ok-None.ensures.came

pub returns-in-Err-clause-turns : goal.returns-in-Err-clause-turns
returns-in-Err-clause-turns g c =
    declined _ (IsAnswered _ (g.A.Answering.Answers c.args.by.now) (g.A.Answering.Tells c.args.by.now) (g.A.Answering.Finishes c.args.by.now)) c.args.state.now c.args.state.now
    _ _ _ _ c.in-Err.ensures.kept c.in-Err.ensures.took _ _ _ _ c.decline.result c.in-Err.front c.in-Err.ensures.came c.decline.ensures

pub returns-in-Err-clause-reads : goal.returns-in-Err-clause-reads
returns-in-Err-clause-reads g c =
    c.in-Err.ensures.failures ∙ sym (reads_told Turn (Option Head) c.in-Err.front c.decline.result _ _ _ _ (failures_of c.args.r.now) c.decline.ensures)

pub returns-in-Err-clause-writes : goal.returns-in-Err-clause-writes
returns-in-Err-clause-writes g c = writes_told Turn Turn c.in-Err.front c.decline.result _ _ _ _ _ _ c.in-Err.ensures.came c.decline.ensures

pub returns-in-Ok-Some-clause-reads : goal.returns-in-Ok-Some-clause-reads
returns-in-Ok-Some-clause-reads g c =
    c.in-Ok-Some.ensures.failures
    ∙ sym (reads_asked c.answer-answered.result c.turn_after.result (failures_of c.args.r.now) c.turn_after.ensures c.answer-answered.ensures.ends)
