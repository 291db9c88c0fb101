-- Weights of a node's sides after a change of one lease.
use Rattle.std.proofs.Common.{ℕ, ◌+◌, ◌≤◌, arith}
use Rattle.lease_book.specs.Trees.{AreEven, AreNearlyEven}

-- one lease more or less on the left, or on the right
pub nearly_left : (a b c : ℕ) → AreEven a b → c ≤ a + 1 → a ≤ c + 1 → AreNearlyEven c b
nearly_left a b c h p q = (omega arith, omega arith)

pub nearly_right : (a b d : ℕ) → AreEven a b → d ≤ b + 1 → b ≤ d + 1 → AreNearlyEven a d
nearly_right a b d h p q = (omega arith, omega arith)
