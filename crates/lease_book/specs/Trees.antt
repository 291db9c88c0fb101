-- What a node of the tree of leases stands for, and what it keeps of it.
use Rattle.std.specs.Prelude.{ℕ, ◌+◌, ◌*◌, ◌<◌, ◌≤◌, List, [], ◌∷◌, ◌++◌, length}
use Rattle.kv_model.specs.Leases.{Lease, most_leases}
use Rattle.lease_book.specs.declared.tree.Node.{Node}
use Rattle.lease_book.specs.declared.tree.Link.{Link}
use Rattle.lease_book.specs.declared.tree.Link.TheVariants.{Nothing, Held}
use Rattle.lease_book.specs.Entries.{lease_of, IsAscending, AreSums}

abbrev pub leases_of : Node → List Lease
leases_of n = n.left ++ lease_of n.entry ∷ n.right

-- neither side has more than three times the weight of the other, where a weight is one more than the number of leases
abbrev pub AreEven : ℕ → ℕ → Type 0
AreEven l r = (r + 1 ≤ 3 * (l + 1)) × (l + 1 ≤ 3 * (r + 1))

-- what a change of one lease makes of even sides
abbrev pub AreNearlyEven : ℕ → ℕ → Type 0
AreNearlyEven l r = (r + 1 ≤ 3 * (l + 2)) × (l + 1 ≤ 3 * (r + 2))

-- the leases ascend and are not too many, the sides are even, and what the node knows of them is right
pub record IsNode (n : Node) : Type 0 where
  pub ascending : IsAscending (leases_of n)
  pub few : length n.left + length n.right < most_leases
  pub even : AreEven (length n.left) (length n.right)
  pub sums : AreSums n.sums (leases_of n)

abbrev pub leases_in : Link → List Lease
leases_in Nothing = []
leases_in (Held b) = leases_of b.value

abbrev pub IsLink : Link → Type 0
IsLink Nothing = Unit {0}
IsLink (Held b) = IsNode b.value
