-- Lists of leases that ascend, and what a question or a change does at the two sides of a lease.
use Rattle.std.proofs.Common.{◌≡◌, ℕ, suc, ℤ, ◌<ℤ◌, ◌≤ℤ◌, Bool, true, false, cond, not, ◌||◌, List, [], ◌∷◌, ◌++◌}
use Rattle.std.proofs.Common.{length, map, refl, sym, ap, ◌∙◌, append_assoc, Option, None, Some, is_some, arith}
use Rattle.std.specs.Prelude.{find, int_lt, option_map}
use Rattle.std.specs.List.{AllByRecursion, list_any}
use Rattle.std.specs.Ordering.{int_eq}
use Rattle.std.specs.Option.{option_or}
use Rattle.std.proofs.lemmas.Int.{ints}
use Rattle.std.proofs.lemmas.Bool.Decides.{Decides-int_eq}
use Rattle.std.proofs.lemmas.List.Elements.{filter-append}
use Rattle.std.proofs.lemmas.List.Folds.{find-append}
use Rattle.std.proofs.lemmas.List.{map-append}
use Rattle.kv_model.specs.Leases.{Lease, has_id, is_granted, lease_at, insert_lease, without_lease, renewed}
use Rattle.lease_book.specs.Entries.{IsAscending}

-- ---- tests on IDs

pub below_differs : (a b : ℤ) → a <ℤ b → int_eq a b ≡ false
below_differs a b h = grind (arith, ints)

pub above_differs : (a b : ℤ) → b <ℤ a → int_eq a b ≡ false
above_differs a b h = grind (arith, ints)

pub int_eq-self : (a : ℤ) → int_eq a a ≡ true
int_eq-self a = (Decides-int_eq a a).1 refl

pub int_lt-true : (a b : ℤ) → a <ℤ b → int_lt a b ≡ true
int_lt-true a b h = grind (arith, ints)

pub int_lt-false : (a b : ℤ) → b ≤ℤ a → int_lt a b ≡ false
int_lt-false a b h = grind (arith, ints)

-- ---- what holds of each lease

pub each_implies : (P Q : Lease → Type 0) → ((l : Lease) → P l → Q l) → (ls : List Lease) → AllByRecursion P ls → AllByRecursion Q ls
each_implies P Q f [] h = tt
each_implies P Q f (l ∷ ls) h = (f l h.0, each_implies P Q f ls h.1)

pub each_front : (P : Lease → Type 0) (xs ys : List Lease) → AllByRecursion P (xs ++ ys) → AllByRecursion P xs
each_front P [] ys h = tt
each_front P (x ∷ xs) ys h = (h.0, each_front P xs ys h.1)

pub each_back : (P : Lease → Type 0) (xs ys : List Lease) → AllByRecursion P (xs ++ ys) → AllByRecursion P ys
each_back P [] ys h = h
each_back P (x ∷ xs) ys h = each_back P xs ys h.1

-- ---- the two sides of a lease

abbrev pub AreBelow : ℤ → List Lease → Type 0
AreBelow id ls = AllByRecursion (λ m. m.id <ℤ id) ls

abbrev pub AreBehind : ℤ → List Lease → Type 0
AreBehind id ls = AllByRecursion (λ m. id <ℤ m.id) ls

pub record AreSides (l : List Lease) (x : Lease) (r : List Lease) : Type 0 where
  pub left : IsAscending l
  pub right : IsAscending r
  pub below : AreBelow x.id l
  pub behind : AreBehind x.id r

pub sides : (l : List Lease) (x : Lease) (r : List Lease) → IsAscending (l ++ x ∷ r) → AreSides l x r
sides [] x r h = record { left = tt; right = h.1; below = tt; behind = h.0 }
sides (y ∷ l) x r h =
    let s = sides l x r h.1 in
    record {
      left = (each_front _ l (x ∷ r) h.0, s.left);
      right = s.right;
      below = ((each_back _ l (x ∷ r) h.0).0, s.below);
      behind = s.behind;
    }

behind_later : (a b : ℤ) → a <ℤ b → (ls : List Lease) → AreBehind b ls → AreBehind a ls
behind_later a b h ls k = each_implies _ _ (λ m j. omega (arith, ints)) ls k

below_later : (a b : ℤ) → a <ℤ b → (ls : List Lease) → AreBelow a ls → AreBelow b ls
below_later a b h ls k = each_implies _ _ (λ m j. omega (arith, ints)) ls k

-- ---- no lease has the ID

abbrev pub AreOthers : ℤ → List Lease → Type 0
AreOthers id ls = AllByRecursion (λ m. has_id id m ≡ false) ls

pub others_behind : (id : ℤ) (ls : List Lease) → AreBehind id ls → AreOthers id ls
others_behind id ls h = each_implies _ _ (λ m k. above_differs m.id id k) ls h

pub others_below : (id : ℤ) (ls : List Lease) → AreBelow id ls → AreOthers id ls
others_below id ls h = each_implies _ _ (λ m k. below_differs m.id id k) ls h

pub lease_at-others : (id : ℤ) (ls : List Lease) → AreOthers id ls → lease_at ls id ≡ None
lease_at-others id [] h = refl
lease_at-others id (l ∷ ls) h = rw h.0 (lease_at-others id ls h.1)

pub is_granted-others : (id : ℤ) (ls : List Lease) → AreOthers id ls → is_granted ls id ≡ false
is_granted-others id [] h = refl
is_granted-others id (l ∷ ls) h = rw h.0 (is_granted-others id ls h.1)

pub without_lease-others : (id : ℤ) (ls : List Lease) → AreOthers id ls → without_lease id ls ≡ ls
without_lease-others id [] h = refl
without_lease-others id (l ∷ ls) h = rw h.0 (ap (λ ms. l ∷ ms) (without_lease-others id ls h.1))

pub renewed-others : (clock : ℕ) (id : ℤ) (ls : List Lease) → AreOthers id ls → map (renewed clock id) ls ≡ ls
renewed-others clock id [] h = refl
renewed-others clock id (l ∷ ls) h = rw h.0 (ap (λ ms. l ∷ ms) (renewed-others clock id ls h.1))

-- ---- a lookup at the sides

or_none : {X : Type 0} (o : Option X) → option_or o None ≡ o
or_none None = refl
or_none (Some x) = refl

pub lease_at-left : (id : ℤ) {l : List Lease} {x : Lease} {r : List Lease} → AreSides l x r → id <ℤ x.id
    → lease_at (l ++ x ∷ r) id ≡ lease_at l id
lease_at-left id {l} {x} {r} s h =
    let none : lease_at (x ∷ r) id ≡ None = lease_at-others id (x ∷ r) (others_behind id (x ∷ r) (h, behind_later id x.id h r s.behind)) in
    find-append (has_id id) l (x ∷ r) ∙ ap (option_or (lease_at l id)) none ∙ or_none (lease_at l id)

pub lease_at-right : (id : ℤ) {l : List Lease} {x : Lease} {r : List Lease} → AreSides l x r → x.id <ℤ id
    → lease_at (l ++ x ∷ r) id ≡ lease_at r id
lease_at-right id {l} {x} {r} s h =
    let none : lease_at l id ≡ None = lease_at-others id l (others_below id l (below_later x.id id h l s.below)) in
    find-append (has_id id) l (x ∷ r) ∙ rw (none, below_differs x.id id h)

pub lease_at-here : {l : List Lease} {x : Lease} {r : List Lease} → AreSides l x r → lease_at (l ++ x ∷ r) x.id ≡ Some x
lease_at-here {l} {x} {r} s =
    let none : lease_at l x.id ≡ None = lease_at-others x.id l (others_below x.id l s.below) in
    find-append (has_id x.id) l (x ∷ r) ∙ rw (none, int_eq-self x.id)

-- ---- a change at the sides

pub without_lease-left : (id : ℤ) {l : List Lease} {x : Lease} {r : List Lease} → AreSides l x r → id <ℤ x.id
    → without_lease id (l ++ x ∷ r) ≡ without_lease id l ++ x ∷ r
without_lease-left id {l} {x} {r} s h =
    filter-append (λ m. not (has_id id m)) l (x ∷ r)
    ∙ ap (λ ms. without_lease id l ++ ms)
    (without_lease-others id (x ∷ r) (others_behind id (x ∷ r) (h, behind_later id x.id h r s.behind)))

pub without_lease-right : (id : ℤ) {l : List Lease} {x : Lease} {r : List Lease} → AreSides l x r → x.id <ℤ id
    → without_lease id (l ++ x ∷ r) ≡ l ++ x ∷ without_lease id r
without_lease-right id {l} {x} {r} s h =
    filter-append (λ m. not (has_id id m)) l (x ∷ r)
    ∙ rw (without_lease-others id l (others_below id l (below_later x.id id h l s.below)), below_differs x.id id h)

pub without_lease-here : {l : List Lease} {x : Lease} {r : List Lease} → AreSides l x r → without_lease x.id (l ++ x ∷ r) ≡ l ++ r
without_lease-here {l} {x} {r} s =
    filter-append (λ m. not (has_id x.id m)) l (x ∷ r)
    ∙ rw (without_lease-others x.id l (others_below x.id l s.below), int_eq-self x.id)
    (ap (λ ms. l ++ ms) (without_lease-others x.id r (others_behind x.id r s.behind)))

pub renewed-left : (clock : ℕ) (id : ℤ) {l : List Lease} {x : Lease} {r : List Lease} → AreSides l x r → id <ℤ x.id
    → map (renewed clock id) (l ++ x ∷ r) ≡ map (renewed clock id) l ++ x ∷ r
renewed-left clock id {l} {x} {r} s h =
    map-append (renewed clock id) l (x ∷ r)
    ∙ ap (λ ms. map (renewed clock id) l ++ ms)
    (renewed-others clock id (x ∷ r) (others_behind id (x ∷ r) (h, behind_later id x.id h r s.behind)))

pub renewed-right : (clock : ℕ) (id : ℤ) {l : List Lease} {x : Lease} {r : List Lease} → AreSides l x r → x.id <ℤ id
    → map (renewed clock id) (l ++ x ∷ r) ≡ l ++ x ∷ map (renewed clock id) r
renewed-right clock id {l} {x} {r} s h =
    map-append (renewed clock id) l (x ∷ r)
    ∙ rw (renewed-others clock id l (others_below id l (below_later x.id id h l s.below)), below_differs x.id id h)

pub renewed-here : (clock : ℕ) {l : List Lease} {x : Lease} {r : List Lease} → AreSides l x r
    → map (renewed clock x.id) (l ++ x ∷ r) ≡ l ++ renewed clock x.id x ∷ r
renewed-here clock {l} {x} {r} s =
    map-append (renewed clock x.id) l (x ∷ r)
    ∙ rw (renewed-others clock x.id l (others_below x.id l s.below))
    (ap (λ ms. l ++ renewed clock x.id x ∷ ms) (renewed-others clock x.id r (others_behind x.id r s.behind)))

pub insert_lease-left : (y : Lease) (l : List Lease) (x : Lease) (r : List Lease) → y.id <ℤ x.id
    → insert_lease y (l ++ x ∷ r) ≡ insert_lease y l ++ x ∷ r
insert_lease-left y [] x r h = rw (int_lt-true y.id x.id h)
insert_lease-left y (m ∷ l) x r h = insert_into y m l (x ∷ r) (int_lt y.id m.id) (insert_lease-left y l x r h)
  where
    insert_into : (y m : Lease) (l r : List Lease) (b : Bool) → insert_lease y (l ++ r) ≡ insert_lease y l ++ r
        → cond b (y ∷ m ∷ (l ++ r)) (m ∷ insert_lease y (l ++ r)) ≡ cond b (y ∷ m ∷ l) (m ∷ insert_lease y l) ++ r
    insert_into y m l r true e = refl
    insert_into y m l r false e = ap (λ ms. m ∷ ms) e

pub insert_lease-right : (y : Lease) (l : List Lease) (x : Lease) (r : List Lease) → AreBelow x.id l → x.id ≤ℤ y.id
    → insert_lease y (l ++ x ∷ r) ≡ l ++ x ∷ insert_lease y r
insert_lease-right y [] x r b h = rw (int_lt-false y.id x.id h)
insert_lease-right y (m ∷ l) x r b h =
    let below : m.id ≤ℤ y.id = let k = b.0 in omega (arith, ints) in
    rw (int_lt-false y.id m.id below) (ap (λ ms. m ∷ ms) (insert_lease-right y l x r b.1 h))

-- ---- what a change leaves

pub each_inserted : (P : Lease → Type 0) (y : Lease) (ls : List Lease) → P y → AllByRecursion P ls → AllByRecursion P (insert_lease y ls)
each_inserted P y [] p h = (p, tt)
each_inserted P y (m ∷ ls) p h = each_put (int_lt y.id m.id) (each_inserted P y ls p h.1)
  where
    each_put : (b : Bool) → AllByRecursion P (insert_lease y ls) → AllByRecursion P (cond b (y ∷ m ∷ ls) (m ∷ insert_lease y ls))
    each_put true k = (p, h)
    each_put false k = (h.0, k)

pub length-insert_lease : (y : Lease) (ls : List Lease) → length (insert_lease y ls) ≡ suc (length ls)
length-insert_lease y [] = refl
length-insert_lease y (m ∷ ls) = counted (int_lt y.id m.id) (length-insert_lease y ls)
  where
    counted : (b : Bool) → length (insert_lease y ls) ≡ suc (length ls)
        → length (cond b (y ∷ m ∷ ls) (m ∷ insert_lease y ls)) ≡ suc (suc (length ls))
    counted true e = refl
    counted false e = ap suc e

pub ascending_front : (xs ys : List Lease) → IsAscending (xs ++ ys) → IsAscending xs
ascending_front [] ys h = tt
ascending_front (x ∷ xs) ys h = (each_front _ xs ys h.0, ascending_front xs ys h.1)

pub ascending_back : (xs ys : List Lease) → IsAscending (xs ++ ys) → IsAscending ys
ascending_back [] ys h = h
ascending_back (x ∷ xs) ys h = ascending_back xs ys h.1

-- ---- a side that is itself a lease between two sides

-- the right side r has the sides b and c
pub near_left : (l : List Lease) (x : Lease) {r : List Lease} (b : List Lease) (m : Lease) (c : List Lease) → r ≡ b ++ m ∷ c
    → IsAscending (l ++ x ∷ r) → IsAscending (l ++ x ∷ b)
near_left l x {r} b m c is h = ascending_front (l ++ x ∷ b) (m ∷ c) (rw (append_assoc l (x ∷ b) (m ∷ c)) (rw is at h))

-- the left side l has the sides b and c
pub near_right : {l : List Lease} (b : List Lease) (m : Lease) (c : List Lease) (x : Lease) (r : List Lease) → l ≡ b ++ m ∷ c
    → IsAscending (l ++ x ∷ r) → IsAscending (c ++ x ∷ r)
near_right {l} b m c x r is h = (ascending_back b (m ∷ (c ++ x ∷ r)) (rw (← (append_assoc b (m ∷ c) (x ∷ r))) (rw is at h))).1

-- ---- whether an ID is granted

is_some-find : {X : Type 0} (p : X → Bool) (xs : List X) → is_some (find p xs) ≡ list_any p xs
is_some-find p [] = refl
is_some-find p (x ∷ xs) = found (p x) x (find p xs) (list_any p xs) (is_some-find p xs)
  where
    found : {X : Type 0} (t : Bool) (x : X) (o : Option X) (b : Bool) → is_some o ≡ b → is_some (cond t (Some x) o) ≡ t || b
    found true x o b e = refl
    found false x o b e = e

pub is_some_mapped : {X Y : Type 0} (f : X → Y) (o : Option X) → is_some o ≡ is_some (option_map f o)
is_some_mapped f None = refl
is_some_mapped f (Some x) = refl

pub is_some-lease_at : (ls : List Lease) (id : ℤ) → is_some (lease_at ls id) ≡ is_granted ls id
is_some-lease_at ls id = is_some-find (has_id id) ls

pub is_granted-left : (id : ℤ) {l : List Lease} {x : Lease} {r : List Lease} → AreSides l x r → id <ℤ x.id
    → is_granted (l ++ x ∷ r) id ≡ is_granted l id
is_granted-left id {l} {x} {r} s h = sym (is_some-lease_at (l ++ x ∷ r) id) ∙ ap is_some (lease_at-left id s h) ∙ is_some-lease_at l id

pub is_granted-right : (id : ℤ) {l : List Lease} {x : Lease} {r : List Lease} → AreSides l x r → x.id <ℤ id
    → is_granted (l ++ x ∷ r) id ≡ is_granted r id
is_granted-right id {l} {x} {r} s h = sym (is_some-lease_at (l ++ x ∷ r) id) ∙ ap is_some (lease_at-right id s h) ∙ is_some-lease_at r id

pub is_granted-here : {l : List Lease} {x : Lease} {r : List Lease} → AreSides l x r → is_granted (l ++ x ∷ r) x.id ≡ true
is_granted-here {l} {x} {r} s = sym (is_some-lease_at (l ++ x ∷ r) x.id) ∙ ap is_some (lease_at-here s)
