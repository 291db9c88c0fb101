use Rattle.http_reply.proofs.Laid.{chunk_laid}
use Rattle.http_reply.proofs.replies.put_chunk.Goals as goal

pub returns : goal.returns
returns c = rw (chunk_laid c.args.message.now _ c.length_of-length.ensures) c.put.ensures.ok
