-- A stable sort by a total order is what insertion makes.
use Rattle.std.proofs.Common.{rules}
use Rattle.std.specs.Cmp.{IsTotalOrder}
use Rattle.std.specs.Ordering.{is_lt}
use Rattle.std.proofs.lemmas.Fn.{always_returns_same}
use Rattle.std.proofs.lemmas.List.Sorted.{ranks_by}
use Rattle.std.proofs.lemmas.Result.{on_ok_weaker}
use Rattle.range_view.proofs.Sorting.{sorted_by-from_stable}
use Rattle.live_keys.specs.Ranked.{ranked_cmp}
use Rattle.live_keys.proofs.Rankings.{ranked-total}
use Rattle.live_keys.proofs.ranking.rank.Goals as goal

pub returns : goal.returns
returns c =
    let total : IsTotalOrder (ranked_cmp c.args.order c.args.target) = ranked-total c.args.order c.args.target in
    on_ok_weaker c.sort_by.result
    (λ up. sorted_by-from_stable (ranked_cmp c.args.order c.args.target) total c.args.placed.now.items c.sort_by.new.self.items
    (up (λ a b. is_lt (ranked_cmp c.args.order c.args.target a b)) (ranks_by total (λ x. x)) (always_returns_same _ _ _ (λ a r f k. search rules)))
    (c.sort_by.ensures.stable (λ a b. is_lt (ranked_cmp c.args.order c.args.target a b)) (ranks_by total (λ x. x)) (always_returns_same _ _ _ (λ a r f k. search rules))))
    c.sort_by.ensures.sorted
