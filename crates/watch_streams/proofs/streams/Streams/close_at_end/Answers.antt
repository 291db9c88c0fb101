use Rattle.watch_streams.proofs.Standing.{either}
use Rattle.watch_streams.proofs.streams.Streams.close_at_end.Goals as goal

pub returns-then-ends : goal.returns-then-ends
returns-then-ends g c = (c.ends.ensures c.if-ends.true, either c.close.result _ _ c.close.ensures.ok c.close.ensures.err)
