use Rattle.std.proofs.Common.{◌≡◌, ℕ, ◌<ℤ◌, ◌∙◌, refl, arith}
use Rattle.std.specs.Int.{w64}
use Rattle.std.proofs.lemmas.Int.{ints, to_z-of_z}
use Rattle.kv_model.specs.Leases.{renewed}
use Rattle.lease_book.specs.Entries.{lease_of}
use Rattle.lease_book.proofs.Order.{int_eq-self}
use Rattle.lease_book.proofs.Nodes.{IsRenewed, at_node, renewed_left, renewed_right, renewed_here}
use Rattle.lease_book.proofs.tree.Tree.+renew.Goals as goal
use Rattle.lease_book.proofs.tree.Tree.+renew.Goals.{Joined-id-node, then-id-node, else-id-node+then-node-id, else-id-node+else-node-id}

-- the node where the branches meet
joined : (t : ℕ) (c : Joined-id-node t) → IsRenewed c.args.clock c.args.id c.args.self.now c.if-id-node.ttl c.if-id-node.node
joined t c =
    let n = c.deref_mut-node.result.now in
    let at = at_node n c.self.view_is c.self.invariant c.in-Held.is c.deref_mut-node.ensures.value in
    elim c.if-id-node.branch [
      | then-id-node w ↦
          let h : c.args.id <ℤ n.entry.id = omega (arith, ints) in
          let e = rw (to_z-of_z w64 c.args.id c.ranges.id) at w.renew-ttl.ensures in
          rw (w.node-is, w.ttl-is) (renewed_left c.args.clock c.args.id at h (record { left = e.leases; entry = refl; right = refl }) e.ttl)
      | else-id-node+then-node-id w ↦
          let h : n.entry.id <ℤ c.args.id = omega (arith, ints) in
          let e = rw (to_z-of_z w64 c.args.id c.ranges.id) at w.renew-ttl-then-node-id.ensures in
          rw (w.node-is, w.ttl-is) (renewed_right c.args.clock c.args.id at h
          (record { left = refl; entry = refl; right = e.leases }) e.ttl)
      | else-id-node+else-node-id w ↦
          let h : c.args.id ≡ n.entry.id = omega (arith, ints) in
          let e : lease_of w.renewed-node.result ≡ renewed c.args.clock n.entry.id (lease_of n.entry) =
          rw (int_eq-self n.entry.id) w.renewed-node.ensures in
          rw (w.node-is, w.ttl-is) (renewed_here c.args.clock c.args.id at h (record { left = refl; entry = e; right = refl }) refl)
    ]

pub settle-requires-clause-ascending : goal.settle-requires-clause-ascending
settle-requires-clause-ascending t c = (joined t c).loose.ascending

pub returns-clause-ttl : goal.returns-clause-ttl
returns-clause-ttl t c = (joined t (goal.at.returns-clause-ttl t c).Joined-id-node).ttl

pub returns-clause-leases : goal.returns-clause-leases
returns-clause-leases t c = c.settle.ensures.leases ∙ (joined t (goal.at.returns-clause-leases t c).Joined-id-node).loose.is
