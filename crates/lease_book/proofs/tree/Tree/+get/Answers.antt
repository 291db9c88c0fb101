use Rattle.std.proofs.Common.{◌≡◌, ◌<ℤ◌, arith}
use Rattle.std.specs.Int.{w64}
use Rattle.std.proofs.lemmas.Int.{ints, to_z-of_z}
use Rattle.lease_book.proofs.Order.{lease_at-left, lease_at-right, lease_at-here}
use Rattle.lease_book.proofs.Nodes.{at_node}
use Rattle.lease_book.proofs.tree.Tree.+get.Goals as goal

pub returns-then-id-node : goal.returns-then-id-node
returns-then-id-node t c =
    let at = at_node c.deref-node.result.now c.self.view_is c.self.invariant c.in-Held.is c.deref-node.ensures in
    let h : c.args.id <ℤ c.deref-node.result.now.entry.id = omega (arith, ints) in
    let e = lease_at-left c.args.id at.sides h in
    rw (at.is, e, ← (to_z-of_z w64 c.args.id c.ranges.id)) c.get.ensures

pub returns-then-node-id : goal.returns-then-node-id
returns-then-node-id t c =
    let at = at_node c.deref-node.result.now c.self.view_is c.self.invariant c.in-Held.is c.deref-node.ensures in
    let h : c.deref-node.result.now.entry.id <ℤ c.args.id = omega (arith, ints) in
    let e = lease_at-right c.args.id at.sides h in
    rw (at.is, e) (rw (to_z-of_z w64 c.args.id c.ranges.id) at c.get-then-node-id.ensures)

pub returns-else-node-id : goal.returns-else-node-id
returns-else-node-id t c =
    let at = at_node c.deref-node.result.now c.self.view_is c.self.invariant c.in-Held.is c.deref-node.ensures in
    let same : c.args.id ≡ c.deref-node.result.now.entry.id = omega (arith, ints) in
    cc (at.is, lease_at-here at.sides)
