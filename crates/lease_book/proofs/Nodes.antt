-- What is known of a tree's leases once its root holds a node, and what a change below the node makes of it.
use Rattle.std.proofs.Common.{◌≡◌, ℕ, suc, ◌+◌, ◌<◌, ◌≤◌, ℤ, ◌<ℤ◌, ◌≤ℤ◌, Bool, true, false, List, [], ◌∷◌}
use Rattle.std.proofs.Common.{◌++◌, length, map, Box, Option, Some, sym, ap, ◌∙◌, subst, arith, append-nil}
use Rattle.std.specs.Prelude.{option_map}
use Rattle.std.specs.declared.alloc.Global.{Global}
use Rattle.kv_model.specs.Leases.{Lease, is_granted, lease_at, insert_lease, without_lease, renewed, most_leases}
use Rattle.lease_book.specs.declared.entry.Entry.{Entry}
use Rattle.lease_book.specs.declared.tree.Node.{Node}
use Rattle.lease_book.specs.declared.tree.Link.{Link}
use Rattle.lease_book.specs.declared.tree.Link.TheVariants.{Nothing, Held}
use Rattle.lease_book.specs.Entries.{lease_of, IsAscending}
use Rattle.lease_book.specs.Trees.{leases_of, leases_in, IsNode, IsLink, AreEven, AreNearlyEven}
use Rattle.lease_book.proofs.Balance.{nearly_left, nearly_right}
use Rattle.lease_book.proofs.Changes.{ascending-insert_lease, ascending-without_lease}
use Rattle.lease_book.proofs.Changes.{length-without_lease, length_left, ascending-renewed, length-map}
use Rattle.lease_book.proofs.Order.{AreSides, sides, length-insert_lease, insert_lease-left, insert_lease-right, without_lease-left}
use Rattle.lease_book.proofs.Order.{without_lease-right, without_lease-here, is_granted-left, is_granted-right, is_granted-here}
use Rattle.lease_book.proofs.Order.{renewed-left, renewed-right, renewed-here, lease_at-left, lease_at-right, lease_at-here}
use Rattle.lease_book.proofs.Sums.{length-sides}

pub record AtNode (ls : List Lease) (n : Node) : Type 0 where
  pub is : ls ≡ n.left ++ lease_of n.entry ∷ n.right
  pub node : IsNode n
  pub sides : AreSides n.left (lease_of n.entry) n.right

pub at_node : {k : Link} {ls : List Lease} {b : Box Node Global} (n : Node) → leases_in k ≡ ls → IsLink k → k ≡ Held b → n ≡ b.value
    → AtNode ls n
at_node {k} {ls} {b} n view_is link is e =
    let sound : IsNode n = subst IsNode (sym e) (subst IsLink is link) in
    record {
      is = sym view_is ∙ ap leases_in is ∙ ap leases_of (sym e);
      node = sound;
      sides = sides n.left (lease_of n.entry) n.right sound.ascending;
    }

-- the whole has the sides and one lease more
pub length_at : {ls : List Lease} {n : Node} → AtNode ls n → length ls ≡ length n.left + length n.right + 1
length_at {ls} {n} at = ap length at.is ∙ length-sides n.left (lease_of n.entry) n.right

pub shorter : {ls : List Lease} {n : Node} → AtNode ls n → (length n.left < length ls) × (length n.right < length ls)
shorter at = (omega (arith, length_at at), omega (arith, length_at at))

-- the parts of a node that was changed
pub record AreParts (m : Node) (l : List Lease) (x : Lease) (r : List Lease) : Type 0 where
  pub left : m.left ≡ l
  pub entry : lease_of m.entry ≡ x
  pub right : m.right ≡ r

pub ascending_in : (k : Link) → IsLink k → IsAscending (leases_in k)
ascending_in Nothing h = tt
ascending_in (Held b) h = h.ascending

-- the node m holds the leases ls, and can be settled
pub record IsLoose (ls : List Lease) (m : Node) : Type 0 where
  pub is : leases_of m ≡ ls
  pub ascending : IsAscending (leases_of m)
  pub few : length m.left + length m.right < most_leases
  pub nearly : AreNearlyEven (length m.left) (length m.right)

settles : (ls : List Lease) (m : Node) → leases_of m ≡ ls → IsAscending ls → length ls ≤ most_leases
    → AreNearlyEven (length m.left) (length m.right) → IsLoose ls m
settles ls m is h few nearly = record {
  is = is;
  ascending = subst IsAscending (sym is) h;
  few = omega (arith, few, length-sides m.left (lease_of m.entry) m.right, ap length is);
  nearly = nearly;
}

few_at : {ls : List Lease} {n : Node} → AtNode ls n → length ls ≤ most_leases
few_at at = omega (arith, at.node.few, length_at at)

-- ---- a lease comes

inserted : {ls : List Lease} {n m : Node} (y : Lease) → AtNode ls n → is_granted ls y.id ≡ false → length ls < most_leases
    → leases_of m ≡ insert_lease y ls → AreNearlyEven (length m.left) (length m.right) → IsLoose (insert_lease y ls) m
inserted {ls} {n} {m} y at new few is nearly =
    settles (insert_lease y ls) m is (ascending-insert_lease y ls new (subst IsAscending (sym at.is) at.node.ascending))
    (omega (arith, few, length-insert_lease y ls)) nearly

pub inserted_left : {ls : List Lease} {n m : Node} (y : Lease) → AtNode ls n → is_granted ls y.id ≡ false → length ls < most_leases
    → y.id <ℤ n.entry.id
    → AreParts m (insert_lease y n.left) (lease_of n.entry) n.right → IsLoose (insert_lease y ls) m
inserted_left {ls} {n} {m} y at new few h parts =
    inserted y at new few
    (rw (parts.left, parts.entry, parts.right, at.is, insert_lease-left y n.left (lease_of n.entry) n.right h))
    (nearly_of (length-insert_lease y n.left) parts.left parts.right at.node.even)
  where
    nearly_of : length (insert_lease y n.left) ≡ suc (length n.left) → m.left ≡ insert_lease y n.left → m.right ≡ n.right
        → AreEven (length n.left) (length n.right) → AreNearlyEven (length m.left) (length m.right)
    nearly_of e left right even =
        rw (left, right, e) (nearly_left (length n.left) (length n.right) (suc (length n.left)) even (omega arith) (omega arith))

pub inserted_right : {ls : List Lease} {n m : Node} (y : Lease) → AtNode ls n → is_granted ls y.id ≡ false → length ls < most_leases
    → n.entry.id ≤ℤ y.id
    → AreParts m n.left (lease_of n.entry) (insert_lease y n.right) → IsLoose (insert_lease y ls) m
inserted_right {ls} {n} {m} y at new few h parts =
    inserted y at new few
    (rw (parts.left, parts.entry, parts.right, at.is, insert_lease-right y n.left (lease_of n.entry) n.right at.sides.below h))
    (nearly_of (length-insert_lease y n.right) parts.left parts.right at.node.even)
  where
    nearly_of : length (insert_lease y n.right) ≡ suc (length n.right) → m.left ≡ n.left → m.right ≡ insert_lease y n.right
        → AreEven (length n.left) (length n.right) → AreNearlyEven (length m.left) (length m.right)
    nearly_of e left right even =
        rw (left, right, e) (nearly_right (length n.left) (length n.right) (suc (length n.right)) even (omega arith) (omega arith))

-- ---- a lease goes

pub record IsWithout (id : ℤ) (ls : List Lease) (answer : Bool) (m : Node) : Type 0 where
  pub loose : IsLoose (without_lease id ls) m
  pub found : answer ≡ is_granted ls id

without : {ls : List Lease} {n m : Node} (id : ℤ) → AtNode ls n → leases_of m ≡ without_lease id ls
    → AreNearlyEven (length m.left) (length m.right) → IsLoose (without_lease id ls) m
without {ls} {n} {m} id at is nearly =
    settles (without_lease id ls) m is (ascending-without_lease id ls (subst IsAscending (sym at.is) at.node.ascending))
    (omega (arith, few_at at, length-without_lease id ls)) nearly

pub without_left : {ls : List Lease} {n m : Node} {found : Bool} (id : ℤ) → AtNode ls n → id <ℤ n.entry.id
    → AreParts m (without_lease id n.left) (lease_of n.entry) n.right → found ≡ is_granted n.left id → IsWithout id ls found m
without_left {ls} {n} {m} id at h parts e = record {
  loose = without id at (rw (parts.left, parts.entry, parts.right, at.is, without_lease-left id at.sides h))
      (rw (parts.left, parts.right) (nearly_left (length n.left) (length n.right) (length (without_lease id n.left)) at.node.even
      (omega (arith, length-without_lease id n.left)) (length_left id n.left at.sides.left)));
  found = rw (at.is, is_granted-left id at.sides h) e;
}

pub without_right : {ls : List Lease} {n m : Node} {found : Bool} (id : ℤ) → AtNode ls n → n.entry.id <ℤ id
    → AreParts m n.left (lease_of n.entry) (without_lease id n.right) → found ≡ is_granted n.right id → IsWithout id ls found m
without_right {ls} {n} {m} id at h parts e = record {
  loose = without id at (rw (parts.left, parts.entry, parts.right, at.is, without_lease-right id at.sides h))
      (rw (parts.left, parts.right) (nearly_right (length n.left) (length n.right) (length (without_lease id n.right)) at.node.even
      (omega (arith, length-without_lease id n.right)) (length_left id n.right at.sides.right)));
  found = rw (at.is, is_granted-right id at.sides h) e;
}

-- the next lease takes the place of the one that goes
pub without_here : {ls : List Lease} {n m : Node} {found : Bool} (id : ℤ) → AtNode ls n → id ≡ n.entry.id
    → m.left ≡ n.left → n.right ≡ lease_of m.entry ∷ m.right → found ≡ true → IsWithout id ls found m
without_here {ls} {n} {m} id at h left right e = record {
  loose = without id at (rw (left, h, at.is, without_lease-here at.sides, right))
      (rw left (nearly_right (length n.left) (length n.right) (length m.right) at.node.even (omega (arith, ap length right))
      (omega (arith, ap length right))));
  found = rw (h, at.is, is_granted-here at.sides) e;
}

-- there is no next one
pub without_last : {ls : List Lease} {n : Node} (id : ℤ) → AtNode ls n → id ≡ n.entry.id → n.right ≡ [] → without_lease id ls ≡ n.left
without_last {ls} {n} id at h right = rw (h, at.is, without_lease-here at.sides, right) (append-nil n.left)

-- ---- a lease has its deadline set anew

pub record IsRenewed (clock : ℕ) (id : ℤ) (ls : List Lease) (answer : Option ℕ) (m : Node) : Type 0 where
  pub loose : IsLoose (map (renewed clock id) ls) m
  pub ttl : answer ≡ option_map (λ l. l.ttl) (lease_at ls id)

renews : {ls : List Lease} {n m : Node} (clock : ℕ) (id : ℤ) → AtNode ls n → leases_of m ≡ map (renewed clock id) ls
    → length m.left ≡ length n.left → length m.right ≡ length n.right → IsLoose (map (renewed clock id) ls) m
renews {ls} {n} {m} clock id at is left right =
    settles (map (renewed clock id) ls) m is (ascending-renewed clock id ls (subst IsAscending (sym at.is) at.node.ascending))
    (omega (arith, few_at at, length-map (renewed clock id) ls))
    (rw (left, right) (nearly_left (length n.left) (length n.right) (length n.left) at.node.even (omega arith) (omega arith)))

pub renewed_left : {ls : List Lease} {n m : Node} {ttl : Option ℕ} (clock : ℕ) (id : ℤ) → AtNode ls n → id <ℤ n.entry.id
    → AreParts m (map (renewed clock id) n.left) (lease_of n.entry) n.right → ttl ≡ option_map (λ l. l.ttl) (lease_at n.left id)
    → IsRenewed clock id ls ttl m
renewed_left {ls} {n} {m} clock id at h parts e = record {
  loose = renews clock id at (rw (parts.left, parts.entry, parts.right, at.is, renewed-left clock id at.sides h))
      (ap length parts.left ∙ length-map (renewed clock id) n.left) (ap length parts.right);
  ttl = rw (at.is, lease_at-left id at.sides h) e;
}

pub renewed_right : {ls : List Lease} {n m : Node} {ttl : Option ℕ} (clock : ℕ) (id : ℤ) → AtNode ls n → n.entry.id <ℤ id
    → AreParts m n.left (lease_of n.entry) (map (renewed clock id) n.right) → ttl ≡ option_map (λ l. l.ttl) (lease_at n.right id)
    → IsRenewed clock id ls ttl m
renewed_right {ls} {n} {m} clock id at h parts e = record {
  loose = renews clock id at (rw (parts.left, parts.entry, parts.right, at.is, renewed-right clock id at.sides h)) (ap length parts.left)
      (ap length parts.right ∙ length-map (renewed clock id) n.right);
  ttl = rw (at.is, lease_at-right id at.sides h) e;
}

pub renewed_here : {ls : List Lease} {n m : Node} {ttl : Option ℕ} (clock : ℕ) (id : ℤ) → AtNode ls n → id ≡ n.entry.id
    → AreParts m n.left (renewed clock n.entry.id (lease_of n.entry)) n.right → ttl ≡ Some n.entry.ttl → IsRenewed clock id ls ttl m
renewed_here {ls} {n} {m} clock id at h parts e = record {
  loose = renews clock id at (rw (parts.left, parts.entry, parts.right, h, at.is, renewed-here clock at.sides)) (ap length parts.left)
      (ap length parts.right);
  ttl = rw (h, at.is, lease_at-here at.sides) e;
}
