-- To note a range changes nothing of what is known.
use Rattle.std.proofs.Common.{◌+◌}
use Rattle.txn_core.proofs.reply.deleted.Goals as goal

pub returns-then-not-delete-clause-known : goal.returns-then-not-delete-clause-known
returns-then-not-delete-clause-known c =
    let known = c.in_ok-kvs.ensures.known in
    record {
      emptied = c.note.ensures c.args.tables.now.versions (c.args.before + 1) c.args.sub known.emptied;
      keys = known.keys;
      changes = known.changes;
    }

pub returns-clause-known : goal.returns-clause-known
returns-clause-known c =
    let known = c.in_ok-kvs.ensures.known in
    record {
      emptied = c.note.ensures c.args.tables.now.versions (c.args.before + 1) c.args.sub known.emptied;
      keys = known.keys;
      changes = known.changes;
    }
