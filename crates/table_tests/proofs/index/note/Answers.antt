-- The revision stands behind those of the key, which are of earlier main revisions.
use Rattle.table_tests.proofs.index.note.Goals as goal

pub put-requires : goal.put-requires
put-requires c = c.is_below.ensures c.args.rev.sub c.if-is_below.true
