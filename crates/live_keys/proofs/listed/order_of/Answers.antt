-- What each order is, this one is.
use Rattle.std.proofs.Common.{arith, sym, subst}
use Rattle.live_keys.specs.Orders.{IsOrder}
use Rattle.store_laws.proofs.Rising.{each-at}
use Rattle.live_keys.proofs.listed.order_of.Goals as goal

pub returns-then-eq-clause-listed : goal.returns-then-eq-clause-listed
returns-then-eq-clause-listed c = λ over each.
    subst (IsOrder over) (sym c.order-item.is)
    (each-at (IsOrder over) c.args.orders.now c.loop-order.order-index c.order-item.result each (omega arith))
