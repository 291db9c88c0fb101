-- A sort by a total order.
use Rattle.std.proofs.Common.{rules}
use Rattle.std.specs.Ordering.{is_lt}
use Rattle.std.proofs.lemmas.Fn.{always_returns_same}
use Rattle.std.proofs.lemmas.List.Sorted.{ranks_by}
use Rattle.std.proofs.lemmas.Result.{on_ok_weaker}
use Rattle.live_keys.specs.Orders.{placed_cmp}
use Rattle.live_keys.proofs.Places.{placed_total}
use Rattle.live_keys.proofs.order.sort.Goals as goal

pub returns-clause-rises : goal.returns-clause-rises
returns-clause-rises c =
    on_ok_weaker c.sort_by.result
    (λ up. up (λ a b. is_lt (placed_cmp c.args.field a b)) (ranks_by (placed_total c.args.field) (λ x. x))
    (always_returns_same _ _ _ (λ a r f k. search rules)))
    c.sort_by.ensures.sorted
