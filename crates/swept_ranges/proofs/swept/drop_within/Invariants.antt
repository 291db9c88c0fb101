use Rattle.std.proofs.Common.{◌≡◌, ◌++◌, ℕ, List, true, length, take, drop, option_copied}
use Rattle.swept_ranges.specs.Ends.{past_ends}
use Rattle.swept_ranges.specs.Swept.{covers}
use Rattle.swept_ranges.proofs.swept.drop_within.Given as goal

-- what is left covers no more, and what is left at the end was to be left
abbrev pub invariant-loop-swept : goal.invariant-loop-swept
invariant-loop-swept l = record {
  covered : (k : List ℕ) → covers l.swept.items k ≡ true → covers l.fn.swept.items k ≡ true;
  rest : take l.place l.swept.items ++ past_ends (option_copied l.to) (drop l.place l.swept.items)
      ≡ take l.place l.fn.swept.items ++ past_ends (option_copied l.to) (drop l.place l.fn.swept.items);
}

abbrev pub decreases-loop-swept : goal.decreases-loop-swept
decreases-loop-swept l = length l.swept.items
