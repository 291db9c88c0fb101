-- A stable sort by a total order is what insertion makes, and what is seen of it is what insertion makes of what is seen.
use Rattle.std.proofs.Common.{rules, ◌∙◌, ap, map}
use Rattle.std.specs.Ordering.{is_lt}
use Rattle.std.specs.Cmp.{IsTotalOrder}
use Rattle.std.proofs.lemmas.Cmp.{on_total}
use Rattle.std.proofs.lemmas.Fn.{always_returns_same}
use Rattle.std.proofs.lemmas.List.Sorted.{ranks_by}
use Rattle.std.proofs.lemmas.Result.{on_ok_weaker}
use Rattle.std.specs.declared.cmp.Ordering.{Ordering}
use Rattle.kv_model.specs.History.{KeyValue}
use Rattle.kv_model.specs.Ranges.{order_cmp, target_cmp}
use Rattle.range_view.specs.declared.reply.KvRef.{KvRef}
use Rattle.range_view.specs.Replies.{kv_view}
use Rattle.range_view.proofs.Orders.{asked_total}
use Rattle.range_view.proofs.Sorting.{sorted_by-from_stable, map-sorted_by}
use Rattle.shown_ranges.proofs.sorting.sort.Goals as goal

pub returns : goal.returns
returns c =
    let asked : KeyValue → KeyValue → Ordering = λ a b. order_cmp c.args.order (target_cmp c.args.target a b) in
    let total : IsTotalOrder (λ (a b : KvRef). asked (kv_view a) (kv_view b)) = on_total kv_view (asked_total c.args.order c.args.target) in
    on_ok_weaker c.sort_by.result
    (λ up. ap (map kv_view) (sorted_by-from_stable (λ (a b : KvRef). asked (kv_view a) (kv_view b)) total c.args.kvs.now.items c.sort_by.new.self.items
    (up (λ a b. is_lt (asked (kv_view a) (kv_view b))) (ranks_by total (λ x. x)) (always_returns_same _ _ _ (λ a r f k. search rules)))
    (c.sort_by.ensures.stable (λ a b. is_lt (asked (kv_view a) (kv_view b))) (ranks_by total (λ x. x)) (always_returns_same _ _ _ (λ a r f k. search rules))))
    ∙ map-sorted_by kv_view asked c.args.kvs.now.items)
    c.sort_by.ensures.sorted
