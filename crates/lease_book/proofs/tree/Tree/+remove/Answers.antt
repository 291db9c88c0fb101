use Rattle.std.proofs.Common.{◌≡◌, ℕ, ◌<ℤ◌, ◌∙◌, refl, sym, arith}
use Rattle.std.specs.Int.{w64}
use Rattle.std.proofs.lemmas.Int.{ints, to_z-of_z}
use Rattle.lease_book.proofs.Nodes.{IsWithout, at_node, without_left, without_right, without_here, without_last}
use Rattle.lease_book.proofs.tree.Tree.+remove.Goals as goal
use Rattle.lease_book.proofs.tree.Tree.+remove.Goals.{Joined-id-node, then-id-node}
use Rattle.lease_book.proofs.tree.Tree.+remove.Goals.{else-id-node+then-node-id, else-id-node+else-node-id+in-Some}

-- the node where the branches meet
joined : (t : ℕ) (c : Joined-id-node t) → IsWithout c.args.id c.args.self.now c.if-id-node.found c.if-id-node.node
joined t c =
    let n = c.deref_mut-node.result.now in
    let at = at_node n c.self.view_is c.self.invariant c.in-Held.is c.deref_mut-node.ensures.value in
    elim c.if-id-node.branch [
      | then-id-node w ↦
          let h : c.args.id <ℤ n.entry.id = omega (arith, ints) in
          let e = rw (to_z-of_z w64 c.args.id c.ranges.id) at w.remove-found.ensures in
          rw (w.node-is, w.found-is) (without_left c.args.id at h (record { left = e.leases; entry = refl; right = refl }) e.found)
      | else-id-node+then-node-id w ↦
          let h : n.entry.id <ℤ c.args.id = omega (arith, ints) in
          let e = rw (to_z-of_z w64 c.args.id c.ranges.id) at w.remove-found-then-node-id.ensures in
          rw (w.node-is, w.found-is) (without_right c.args.id at h (record { left = refl; entry = refl; right = e.leases }) e.found)
      | else-id-node+else-node-id+in-Some w ↦
          let h : c.args.id ≡ n.entry.id = omega (arith, ints) in
          rw (w.node-is, w.found-is) (without_here c.args.id at h refl w.in-Some.ensures refl)
    ]

pub settle-requires-clause-ascending : goal.settle-requires-clause-ascending
settle-requires-clause-ascending t c = (joined t c).loose.ascending

pub settle-requires-clause-few : goal.settle-requires-clause-few
settle-requires-clause-few t c = (joined t c).loose.few

pub settle-requires-clause-nearly : goal.settle-requires-clause-nearly
settle-requires-clause-nearly t c = (joined t c).loose.nearly

pub returns-in-None-clause-leases : goal.returns-in-None-clause-leases
returns-in-None-clause-leases t c =
    let n = c.deref_mut-node.result.now in
    let at = at_node n c.self.view_is c.self.invariant c.in-Held.is c.deref_mut-node.ensures.value in
    let h : c.args.id ≡ n.entry.id = omega (arith, ints) in
    c.open.ensures.leases ∙ c.replace-left.ensures.value ∙ sym (without_last c.args.id at h c.in-None.ensures.1)

pub returns-after-id-node-clause-found : goal.returns-after-id-node-clause-found
returns-after-id-node-clause-found t c = (joined t (goal.at.returns-after-id-node-clause-found t c).Joined-id-node).found

pub returns-after-id-node-clause-leases : goal.returns-after-id-node-clause-leases
returns-after-id-node-clause-leases t c = c.settle.ensures.leases
    ∙ (joined t (goal.at.returns-after-id-node-clause-leases t c).Joined-id-node).loose.is
