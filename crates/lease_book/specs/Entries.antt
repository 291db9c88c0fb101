-- A lease as the book keeps it, and facts about lists of leases.
use Rattle.std.specs.Prelude.{◌≡◌, ℕ, suc, ◌+◌, pos, ◌<ℤ◌, int_lt, List, []}
use Rattle.std.specs.Prelude.{◌∷◌, length, Option, None, Some, if◌then◌else◌}
use Rattle.std.specs.List.{AllByRecursion}
use Rattle.std.specs.Ordering.{int_eq}
use Rattle.lease_book.specs.declared.entry.Entry.{Entry}
use Rattle.lease_book.specs.declared.tree.Sums.{Sums}
use Rattle.kv_model.specs.Leases.{Lease, sooner}

abbrev pub lease_of : Entry → Lease
lease_of e = record { id = e.id; ttl = e.ttl; deadline = e.deadline }

-- each ID is below the later ones
abbrev pub IsAscending : List Lease → Type 0
IsAscending [] = Unit {0}
IsAscending (l ∷ ls) = AllByRecursion (λ m. l.id <ℤ m.id) ls × IsAscending ls

-- the lease of the earliest deadline, and of the least ID among equal ones
abbrev pub earliest : List Lease → Option Lease
earliest [] = None
earliest (l ∷ ls) = sooner l (earliest ls)

-- the earlier of the first of each of two lists
abbrev pub first_of : Option Lease → Option Lease → Option Lease
first_of None o = o
first_of (Some l) o = sooner l o

-- how many IDs are above 0
abbrev pub positives : List Lease → ℕ
positives [] = 0
positives (l ∷ ls) = (if int_lt (pos 0) l.id then 1 else 0) + positives ls

pub record AreSums (s : Sums) (ls : List Lease) : Type 0 where
  pub count : s.count ≡ length ls
  pub positive : s.positive ≡ positives ls
  pub earliest : Some (lease_of s.earliest) ≡ earliest ls

-- the least number from n on that is no ID, where the IDs ascend
abbrev pub gap : ℕ → List Lease → ℕ
gap n [] = n
gap n (l ∷ ls) = gap (if int_eq l.id (pos n) then suc n else n) ls

-- each ID above 0 is above n
abbrev pub PositivesAbove : ℕ → List Lease → Type 0
PositivesAbove n ls = AllByRecursion (λ l. pos 0 <ℤ l.id → pos n <ℤ l.id) ls
