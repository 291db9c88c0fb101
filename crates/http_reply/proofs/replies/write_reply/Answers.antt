use Rattle.std.proofs.Common.{◌∙◌}
use Rattle.http_reply.proofs.Laid.{reply_laid}
use Rattle.http_reply.proofs.replies.write_reply.Goals as goal

pub returns-clause-sent : goal.returns-clause-sent
returns-clause-sent g c =
    let laid = reply_laid c.args.status c.args.body.now c.args.close _ _ _ _ (c.as_bytes-code.ensures.value ∙ c.format.ensures.text) c.reason.ensures
    (c.as_bytes-length.ensures.value ∙ c.format-2.ensures.text) c.close_line.ensures in
    rw laid c.send.ensures.sent

pub returns-clause-memory : goal.returns-clause-memory
returns-clause-memory g c =
    let laid = reply_laid c.args.status c.args.body.now c.args.close _ _ _ _ (c.as_bytes-code.ensures.value ∙ c.format.ensures.text) c.reason.ensures
    (c.as_bytes-length.ensures.value ∙ c.format-2.ensures.text) c.close_line.ensures in
    rw laid c.send.ensures.memory
