-- A range of which nothing is seen, and nothing put, stays empty.
use Rattle.std.proofs.Common.{◌<◌, ◌+◌, arith}
use Rattle.txn_core.proofs.Staying.{emptied-more, puts-sorted}
use Rattle.txn_core.proofs.emptied.settle.Goals as goal

pub is_free-requires : goal.is_free-requires
is_free-requires c = puts-sorted c.args.tables.now.versions (c.args.before + 1) c.args.sub c.learn_puts.new.emptied
    (c.in_ok-learn_puts.ensures c.args.sub c.requires.emptied)

pub returns : goal.returns
returns c =
    let vs = c.args.tables.now.versions in
    let main = c.args.before + 1 in
    let sub = c.args.sub in
    let e = c.learn_puts.new.emptied in
    let had = c.in_ok-learn_puts.ensures sub c.requires.emptied in
    let some : 0 < sub = omega (arith, c.if-sub-eq0.false) in
    record {
      puts = had.puts;
      none = emptied-more vs main sub e c.add.new.swept.items c.in-Some.range.now had c.in_ok-add.ensures
          (c.is_free.ensures vs main sub had c.if-not-is_free.false) some (c.in_ok-holds_some.ensures c.if-branch.false);
    }
