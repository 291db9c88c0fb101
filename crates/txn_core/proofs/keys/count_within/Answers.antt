use Rattle.std.proofs.Common.{arith, ◌∙◌}
use Rattle.kv_model.specs.Keys.{in_range}
use Rattle.store_laws.proofs.SmallLaws.{same_key-comm}
use Rattle.txn_core.specs.Views.{keys_view}
use Rattle.txn_core.proofs.Counting.{counts-same, count-all, from-counted}
use Rattle.txn_core.proofs.keys.count_within.Goals as goal

pub returns-in-Key : goal.returns-in-Key
returns-in-Key c = c.count_same.ensures ∙ counts-same _ _ (λ k. same_key-comm c.in-Key.key.now k ∙ c.in-Key.ensures k)
    (keys_view c.args.keys.now)

pub returns-in-All : goal.returns-in-All
returns-in-All c = count-all c.args.keys.now ∙ counts-same _ _ (λ k. c.in-All.ensures k) (keys_view c.args.keys.now)

pub overflow_sub-result : goal.overflow_sub-result
overflow_sub-result c =
    omega (arith, from-counted c.in-From.from.now (in_range c.args.range.now) (λ k. c.in-From.ensures k) c.args.keys.now)

pub returns-in-From : goal.returns-in-From
returns-in-From c =
    omega (arith, from-counted c.in-From.from.now (in_range c.args.range.now) (λ k. c.in-From.ensures k) c.args.keys.now)

pub returns-in-Interval : goal.returns-in-Interval
returns-in-Interval c = c.count_between.ensures ∙ counts-same _ _ (λ k. c.in-Interval.ensures k) (keys_view c.args.keys.now)
