use Rattle.lease_book.specs.Entries.{lease_of}
use Rattle.lease_book.proofs.Order.{near_left, near_right, ascending_back}
use Rattle.lease_book.proofs.tree.Node.raise_right.Goals as goal

pub new-requires-clause-ascending : goal.new-requires-clause-ascending
new-requires-clause-ascending c =
    near_left c.args.left (lease_of c.args.entry) _ _ _ c.unpack-top.ensures.leases c.requires.ascending

pub new-requires-2-clause-ascending : goal.new-requires-2-clause-ascending
new-requires-2-clause-ascending c =
    near_left c.args.left (lease_of c.args.entry) _ _ _ c.unpack-inner.ensures.leases
    (near_left c.args.left (lease_of c.args.entry) _ _ _ c.unpack-top.ensures.leases c.requires.ascending)

pub new-requires-3-clause-ascending : goal.new-requires-3-clause-ascending
new-requires-3-clause-ascending c =
    let top = rw c.unpack-top.ensures.leases at (ascending_back c.args.left _ c.requires.ascending).1 in
    near_right _ _ _ (lease_of c.unpack-top.result.2) c.unpack-top.result.3 c.unpack-inner.ensures.leases top
