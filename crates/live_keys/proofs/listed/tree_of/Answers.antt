-- What each tree is, this one is.
use Rattle.std.proofs.Common.{arith, sym, subst}
use Rattle.live_keys.specs.Extremes.{IsTree}
use Rattle.store_laws.proofs.Rising.{each-at}
use Rattle.live_keys.proofs.listed.tree_of.Goals as goal

pub returns-then-eq-clause-listed : goal.returns-then-eq-clause-listed
returns-then-eq-clause-listed c = λ over each.
    subst (IsTree over) (sym c.tree-item.is)
    (each-at (IsTree over) c.args.trees.now c.loop-tree.tree-index c.tree-item.result each (omega arith))
