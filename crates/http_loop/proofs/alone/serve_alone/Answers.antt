use Rattle.std.proofs.Common.{[]}
use Rattle.http_loop.proofs.Worlds.{serves}
use Rattle.http_loop.proofs.alone.serve_alone.Goals as goal

pub returns-clause-serves : goal.returns-clause-serves
returns-clause-serves g c = serves _ [] c.args.limit _ _ _ _ _ c.serve_all.ensures.serves
