use Rattle.std.proofs.Common.{ℕ, ◌<ℤ◌, ◌≤ℤ◌, ◌∙◌, refl, arith}
use Rattle.std.proofs.lemmas.Int.{ints}
use Rattle.kv_model.specs.Leases.{insert_lease}
use Rattle.lease_book.specs.Entries.{lease_of}
use Rattle.lease_book.proofs.Nodes.{IsLoose, at_node, inserted_left, inserted_right}
use Rattle.lease_book.proofs.tree.Tree.+insert.Goals as goal
use Rattle.lease_book.proofs.tree.Tree.+insert.Goals.{Joined-entry-node}
use Rattle.lease_book.proofs.tree.Tree.+insert.Goals.{then-entry-node+in_ok-insert-in-Held, else-entry-node+in_ok-insert-in-Held-2}

-- the node where the branches meet
joined : (t : ℕ) (c : Joined-entry-node t) → IsLoose (insert_lease (lease_of c.args.entry) c.args.self.now) c.if-entry-node.node
joined t c =
    let n = c.deref_mut-node.result.now in
    let at = at_node n c.self.view_is c.self.invariant c.in-Held.is c.deref_mut-node.ensures.value in
    elim c.if-entry-node.branch [
      | then-entry-node+in_ok-insert-in-Held w ↦
          let h : c.args.entry.id <ℤ n.entry.id = omega (arith, ints) in
          rw w.node-is (inserted_left (lease_of c.args.entry) at c.requires.unknown c.requires.few h
          (record { left = w.in_ok-insert-in-Held.ensures.ok; entry = refl; right = refl }))
      | else-entry-node+in_ok-insert-in-Held-2 w ↦
          let h : n.entry.id ≤ℤ c.args.entry.id = omega (arith, ints) in
          rw w.node-is (inserted_right (lease_of c.args.entry) at c.requires.unknown c.requires.few h
          (record { left = refl; entry = refl; right = w.in_ok-insert-in-Held-2.ensures.ok }))
    ]

pub settle-requires-clause-ascending : goal.settle-requires-clause-ascending
settle-requires-clause-ascending t c = (joined t c).ascending

pub settle-requires-clause-few : goal.settle-requires-clause-few
settle-requires-clause-few t c = (joined t c).few

pub settle-requires-clause-nearly : goal.settle-requires-clause-nearly
settle-requires-clause-nearly t c = (joined t c).nearly

pub returns-after-entry-node-clause-ok : goal.returns-after-entry-node-clause-ok
returns-after-entry-node-clause-ok t c = c.settle.ensures.leases
    ∙ (joined t (goal.at.returns-after-entry-node-clause-ok t c).Joined-entry-node).is
