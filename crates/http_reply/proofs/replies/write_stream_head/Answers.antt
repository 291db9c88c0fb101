use Rattle.std.proofs.Common.{refl}
use Rattle.std.specs.Fmt.{digits}
use Rattle.http_reply.specs.Replies.{stream_head}
use Rattle.http_reply.proofs.replies.write_stream_head.Goals as goal

pub returns-clause-sent : goal.returns-clause-sent
unfolding stream_head digits
returns-clause-sent g c = c.send.ensures.sent

pub returns-clause-memory : goal.returns-clause-memory
unfolding stream_head digits
returns-clause-memory g c = c.send.ensures.memory
