use Rattle.http_reply.proofs.Laid.{chunk_laid}
use Rattle.http_reply.proofs.replies.write_chunk.Goals as goal

pub returns-clause-sent : goal.returns-clause-sent
returns-clause-sent g c = rw (chunk_laid c.args.message.now _ c.length_of-length.ensures) c.send.ensures.sent

pub returns-clause-memory : goal.returns-clause-memory
returns-clause-memory g c = rw (chunk_laid c.args.message.now _ c.length_of-length.ensures) c.send.ensures.memory
