use Rattle.std.proofs.Common.{Ok, Err}
use Rattle.http_loop.proofs.Texts.{by_writing}
use Rattle.http_loop.proofs.writing.decline.Goals as goal

pub returns-in-Ok : goal.returns-in-Ok
returns-in-Ok g c = by_writing c.args.front _ _ _ _ (Ok c.in-Ok.field-0) c.in-Ok.ensures.writes c.in-Ok.ensures.failures

pub returns-in-Err : goal.returns-in-Err
returns-in-Err g c = by_writing c.args.front _ _ _ _ (Err c.in-Err.cut) c.in-Err.ensures.writes c.in-Err.ensures.failures
