use Rattle.std.proofs.Common.{◌≡◌, false, arith, ap, sym, ◌∙◌}
use Rattle.std.specs.Ordering.{is_lt}
use Rattle.kv_model.specs.Keys.{key_lt}
use Rattle.txn_core.specs.Views.{keys_view}
use Rattle.txn_core.proofs.Counting.{count-none, count-between}
use Rattle.txn_core.proofs.keys.count_between.Goals as goal

pub returns-then-is_lt : goal.returns-then-is_lt
returns-then-is_lt c =
    count-none c.args.from.now c.args.to.now (keys_view c.args.keys.now)
    (ap is_lt (sym c.cmp.ensures) ∙ sym c.is_lt.ensures ∙ c.if-is_lt.true)

pub overflow_sub-result : goal.overflow_sub-result
overflow_sub-result c =
    let above : key_lt c.args.to.now c.args.from.now ≡ false = ap is_lt (sym c.cmp.ensures) ∙ sym c.is_lt.ensures ∙ c.if-is_lt.false in
    omega (arith, count-between c.args.from.now c.args.to.now (keys_view c.args.keys.now) above)

pub returns : goal.returns
returns c =
    let above : key_lt c.args.to.now c.args.from.now ≡ false = ap is_lt (sym c.cmp.ensures) ∙ sym c.is_lt.ensures ∙ c.if-is_lt.false in
    omega (arith, count-between c.args.from.now c.args.to.now (keys_view c.args.keys.now) above)
