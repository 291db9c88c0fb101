use Rattle.std.proofs.Common.{arith}
use Rattle.txn_core.specs.Views.{keys_view}
use Rattle.txn_core.proofs.Counting.{count-same}
use Rattle.txn_core.proofs.keys.count_same.Goals as goal

pub overflow_sub-result : goal.overflow_sub-result
overflow_sub-result c = omega (arith, count-same c.args.key.now (keys_view c.args.keys.now))

pub returns : goal.returns
returns c = omega (arith, count-same c.args.key.now (keys_view c.args.keys.now))
