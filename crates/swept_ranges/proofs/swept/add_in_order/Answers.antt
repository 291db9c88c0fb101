-- The range is put into its place, where those that end by its end were dropped.
use Rattle.std.proofs.Common.{List, Bor, option_copied, subst}
use Rattle.kv_model.specs.declared.version.KeyRange.{KeyRange}
use Rattle.swept_ranges.specs.Ends.{AreInOrder, Fits}
use Rattle.swept_ranges.proofs.Order.{on-ok, order-put}
use Rattle.swept_ranges.proofs.swept.add_in_order.Goals as goal

pub returns-clause-ordered : goal.returns-clause-ordered
returns-clause-ordered c =
    let rs = c.args.swept.now.items in
    let fits = subst (λ (xs : List (Bor KeyRange)). AreInOrder xs → Fits xs c.args.range.now c.in-Some.place)
    c.deref.ensures.value c.in-Some.ensures in
    on-ok _ _
    (order-put c.args.range rs c.drop_within.new.swept.items c.put_in.new.swept.items c.in-Some.place (option_copied c.end_of.result)
    c.end_of.ensures c.drop_within.ensures.rest fits) c.put_in.result c.put_in.ensures.put
