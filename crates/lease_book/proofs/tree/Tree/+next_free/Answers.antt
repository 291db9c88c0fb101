use Rattle.std.proofs.Common.{◌≡◌, ◌≢◌, ◌+◌, ◌<◌, length, pos, ◌<ℤ◌, ◌≤ℤ◌, arith, rules}
use Rattle.std.proofs.lemmas.Int.{ints}
use Rattle.lease_book.specs.Entries.{lease_of}
use Rattle.lease_book.proofs.Gaps.{above_left, above_right, above_later, descends_low, descends_full, descends_left}
use Rattle.lease_book.proofs.Nodes.{at_node, length_at, shorter}
use Rattle.lease_book.proofs.Sums.{positives_few}
use Rattle.lease_book.proofs.tree.Tree.+next_free.Goals as goal

pub overflow_add-place : goal.overflow_add-place
overflow_add-place t c =
    let n = c.deref-node.result.now in
    let at = at_node n c.self.view_is c.self.invariant c.in-Held.is c.deref-node.ensures in
    omega (arith, c.requires.fits, length_at at, positives_few n.left)

pub overflow_add-place-in-Held : goal.overflow_add-place-in-Held
overflow_add-place-in-Held t c =
    let n = c.deref-node.result.now in
    let at = at_node n c.self.view_is c.self.invariant c.in-Held.is c.deref-node.ensures in
    omega (arith, c.requires.fits, length_at at, positives_few n.left)

pub next_free-requires : goal.next_free-requires
next_free-requires t c =
    let n = c.deref-node.result.now in
    let at = at_node n c.self.view_is c.self.invariant c.in-Held.is c.deref-node.ensures in
    let fewer : (length n.left < length c.args.self.now) × (length n.right < length c.args.self.now) = shorter at in (
      search rules,
      (
        above_right c.args.filled n.left (lease_of n.entry) n.right (rw at.is at c.requires.above),
        omega (arith, c.requires.fits, length_at at),
      ),
    )

pub next_free-requires-then-node-from : goal.next_free-requires-then-node-from
next_free-requires-then-node-from t c =
    let n = c.deref-node.result.now in
    let at = at_node n c.self.view_is c.self.invariant c.in-Held.is c.deref-node.ensures in
    let is : n.entry.id ≡ pos (c.args.filled + c.positive.result + 1) = omega (arith, ints) in
    let fewer : (length n.left < length c.args.self.now) × (length n.right < length c.args.self.now) = shorter at in (
      search rules,
      (
        above_later (c.args.filled + c.positive.result + 1) (lease_of n.entry) n.right is at.sides.behind,
        omega (arith, c.requires.fits, length_at at, positives_few n.left),
      ),
    )

pub next_free-requires-else-node-from : goal.next_free-requires-else-node-from
next_free-requires-else-node-from t c =
    let n = c.deref-node.result.now in
    let at = at_node n c.self.view_is c.self.invariant c.in-Held.is c.deref-node.ensures in
    let fewer : (length n.left < length c.args.self.now) × (length n.right < length c.args.self.now) = shorter at in (
      search rules,
      (
        above_left c.args.filled n.left (lease_of n.entry) n.right (rw at.is at c.requires.above),
        omega (arith, c.requires.fits, length_at at),
      ),
    )

pub returns-then-node-le0 : goal.returns-then-node-le0
returns-then-node-le0 t c =
    let n = c.deref-node.result.now in
    let at = at_node n c.self.view_is c.self.invariant c.in-Held.is c.deref-node.ensures in
    let low : n.entry.id ≤ℤ pos 0 = omega (arith, ints) in
    rw (at.is, descends_low c.args.filled at.sides low) c.next_free.ensures

pub returns-then-node-from : goal.returns-then-node-from
returns-then-node-from t c =
    let n = c.deref-node.result.now in
    let at = at_node n c.self.view_is c.self.invariant c.in-Held.is c.deref-node.ensures in
    let is : n.entry.id ≡ pos (c.args.filled + c.positive.result + 1) = omega (arith, ints) in
    rw (at.is, descends_full c.args.filled c.positive.result at.sides (rw at.is at c.requires.above) is c.positive.ensures)
    c.next_free-then-node-from.ensures

pub returns-else-node-from : goal.returns-else-node-from
returns-else-node-from t c =
    let n = c.deref-node.result.now in
    let at = at_node n c.self.view_is c.self.invariant c.in-Held.is c.deref-node.ensures in
    let high : pos 0 <ℤ n.entry.id = omega (arith, ints) in
    let other : n.entry.id ≢ pos (c.args.filled + c.positive.result + 1) = λ e. omega (arith, ints, e) in
    rw (at.is, descends_left c.args.filled c.positive.result at.sides (rw at.is at c.requires.above) high other c.positive.ensures)
    c.next_free-else-node-from.ensures
