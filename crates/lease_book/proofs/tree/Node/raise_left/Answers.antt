use Rattle.lease_book.specs.Entries.{lease_of}
use Rattle.lease_book.proofs.Order.{near_left, near_right, ascending_front}
use Rattle.lease_book.proofs.tree.Node.raise_left.Goals as goal

pub new-requires-clause-ascending : goal.new-requires-clause-ascending
new-requires-clause-ascending c =
    near_right _ _ _ (lease_of c.args.entry) c.args.right c.unpack-top.ensures.leases c.requires.ascending

pub new-requires-2-clause-ascending : goal.new-requires-2-clause-ascending
new-requires-2-clause-ascending c =
    near_right _ _ _ (lease_of c.args.entry) c.args.right c.unpack-inner.ensures.leases
    (near_right _ _ _ (lease_of c.args.entry) c.args.right c.unpack-top.ensures.leases c.requires.ascending)

pub new-requires-3-clause-ascending : goal.new-requires-3-clause-ascending
new-requires-3-clause-ascending c =
    let top = rw c.unpack-top.ensures.leases at (ascending_front c.args.left _ c.requires.ascending) in
    near_left c.unpack-top.result.1 (lease_of c.unpack-top.result.2) _ _ _ c.unpack-inner.ensures.leases top
