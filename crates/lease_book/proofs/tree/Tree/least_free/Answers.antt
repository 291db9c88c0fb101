use Rattle.std.proofs.Common.{◌∙◌, sym, subst}
use Rattle.lease_book.specs.Entries.{IsAscending}
use Rattle.lease_book.proofs.Gaps.{above_zero, gap_free, least_free-gap}
use Rattle.lease_book.proofs.Nodes.{ascending_in}
use Rattle.lease_book.proofs.tree.Tree.least_free.Goals as goal

pub next_free-requires-clause-above : goal.next_free-requires-clause-above
next_free-requires-clause-above c = above_zero c.args.self.now

pub returns-clause-least : goal.returns-clause-least
returns-clause-least c = c.next_free.ensures
    ∙ sym (least_free-gap c.args.self.now (subst IsAscending c.self.view_is (ascending_in c.self.inside.root c.self.invariant)))

pub returns-clause-free : goal.returns-clause-free
returns-clause-free c =
    rw c.next_free.ensures (gap_free 1 c.args.self.now
    (subst IsAscending c.self.view_is (ascending_in c.self.inside.root c.self.invariant)))
