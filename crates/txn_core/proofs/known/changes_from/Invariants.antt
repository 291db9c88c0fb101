use Rattle.std.proofs.Common.{◌≡◌, ◌++◌, length, map, filter, nat_le}
use Rattle.txn_core.specs.Known.{AreNumbered}
use Rattle.txn_core.proofs.known.changes_from.Given as goal

-- what is listed, and what is left, is all; what is listed is numbered from 0 on
abbrev pub invariant-loop-version : goal.invariant-loop-version
invariant-loop-version l = record {
  all : map (λ w. w.now) l.changes.items ++ l.versions ≡ filter (λ v. nat_le l.main v.rev.main) l.tables.versions;
  numbered : AreNumbered 0 l.changes.items;
}

abbrev pub decreases-loop-version : goal.decreases-loop-version
decreases-loop-version l = length l.versions
