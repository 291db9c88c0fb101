-- What a change of leases keeps.
use Rattle.std.proofs.Common.{◌≡◌, ℕ, suc, ◌+◌, ◌≤◌, ◌<◌, ℤ, ◌<ℤ◌, Bool, true, false, cond, not, ◌||◌}
use Rattle.std.proofs.Common.{leb, Option, None, Some, List, [], ◌∷◌, length, map, refl, ap, arith}
use Rattle.std.specs.Prelude.{int_lt}
use Rattle.std.specs.List.{AllByRecursion}
use Rattle.std.specs.Ordering.{int_eq}
use Rattle.std.proofs.lemmas.Int.{ints}
use Rattle.std.proofs.lemmas.Bool.{lt-ltb, le-ltb, ne_eqb}
use Rattle.kv_model.specs.Leases.{Lease, has_id, is_granted, insert_lease, without_lease, renewed, deadline_of, sooner, due}
use Rattle.lease_book.specs.Entries.{IsAscending, earliest}
use Rattle.lease_book.proofs.Sums.{is_sooner}
use Rattle.lease_book.proofs.Order.{each_implies, each_inserted, without_lease-others, others_behind}
use Rattle.std.proofs.lemmas.Bool.Decides.{Decides-int_eq, nat_tests}

-- ---- a lease comes

or_left : (a b : Bool) → a || b ≡ false → a ≡ false
or_left true b h = h
or_left false b h = refl

or_right : (a b : Bool) → a || b ≡ false → b ≡ false
or_right true b h = absurd (cc h)
or_right false b h = h

differs : (a b : ℤ) → int_eq a b ≡ false → int_lt b a ≡ false → a <ℤ b
differs a b h k = grind (arith, ints)

pub ascending-insert_lease : (y : Lease) (ls : List Lease) → is_granted ls y.id ≡ false → IsAscending ls → IsAscending (insert_lease y ls)
ascending-insert_lease y [] g h = (tt, tt)
ascending-insert_lease y (m ∷ ls) g h =
    ascends (int_lt y.id m.id) refl (ascending-insert_lease y ls (or_right (has_id y.id m) (is_granted ls y.id) g) h.1)
  where
    ascends : (b : Bool) → int_lt y.id m.id ≡ b → IsAscending (insert_lease y ls)
        → IsAscending (cond b (y ∷ m ∷ ls) (m ∷ insert_lease y ls))
    ascends true e k =
        let below : y.id <ℤ m.id = omega (arith, ints, e) in
        ((below, each_implies _ _ (λ n j. omega (arith, ints)) ls h.0), h)
    ascends false e k = (each_inserted _ y ls (differs m.id y.id (or_left (has_id y.id m) (is_granted ls y.id) g) e) h.0, k)

-- ---- a lease goes

pub each_left : (P : Lease → Type 0) (id : ℤ) (ls : List Lease) → AllByRecursion P ls → AllByRecursion P (without_lease id ls)
each_left P id [] h = tt
each_left P id (l ∷ ls) h = kept (not (has_id id l)) (each_left P id ls h.1)
  where
    kept : (b : Bool) → AllByRecursion P (without_lease id ls) → AllByRecursion P (cond b (l ∷ without_lease id ls) (without_lease id ls))
    kept true k = (h.0, k)
    kept false k = k

pub ascending-without_lease : (id : ℤ) (ls : List Lease) → IsAscending ls → IsAscending (without_lease id ls)
ascending-without_lease id [] h = tt
ascending-without_lease id (l ∷ ls) h = kept (not (has_id id l)) (ascending-without_lease id ls h.1)
  where
    kept : (b : Bool) → IsAscending (without_lease id ls) → IsAscending (cond b (l ∷ without_lease id ls) (without_lease id ls))
    kept true k = (each_left _ id ls h.0, k)
    kept false k = k

pub length-without_lease : (id : ℤ) (ls : List Lease) → length (without_lease id ls) ≤ length ls
length-without_lease id [] = omega arith
length-without_lease id (l ∷ ls) = kept (not (has_id id l)) (length-without_lease id ls)
  where
    kept : (b : Bool) → length (without_lease id ls) ≤ length ls
        → length (cond b (l ∷ without_lease id ls) (without_lease id ls)) ≤ length (l ∷ ls)
    kept true k = omega arith
    kept false k = omega arith

-- ---- a lease has its deadline set anew

pub renewed-id : (clock : ℕ) (id : ℤ) (l : Lease) → (renewed clock id l).id ≡ l.id
renewed-id clock id l = kept (has_id id l)
  where
    kept : (b : Bool) → (cond b (record l { deadline = deadline_of clock l.ttl }) l).id ≡ l.id
    kept true = refl
    kept false = refl

each_renewed : (k : ℤ) (clock : ℕ) (id : ℤ) (ls : List Lease) → AllByRecursion (λ m. k <ℤ m.id) ls
    → AllByRecursion (λ m. k <ℤ m.id) (map (renewed clock id) ls)
each_renewed k clock id [] h = tt
each_renewed k clock id (l ∷ ls) h = (rw (renewed-id clock id l) h.0, each_renewed k clock id ls h.1)

pub ascending-renewed : (clock : ℕ) (id : ℤ) (ls : List Lease) → IsAscending ls → IsAscending (map (renewed clock id) ls)
ascending-renewed clock id [] h = tt
ascending-renewed clock id (l ∷ ls) h = (rw (renewed-id clock id l) (each_renewed l.id clock id ls h.0), ascending-renewed clock id ls h.1)

pub length-map : {X Y : Type 0} (f : X → Y) (xs : List X) → length (map f xs) ≡ length xs
length-map f [] = refl
length-map f (x ∷ xs) = ap suc (length-map f xs)

-- IDs that ascend stand once, so at most one lease goes
pub length_left : (id : ℤ) (ls : List Lease) → IsAscending ls → length ls ≤ length (without_lease id ls) + 1
length_left id [] h = omega arith
length_left id (l ∷ ls) h = kept (has_id id l) refl (length_left id ls h.1)
  where
    kept : (b : Bool) → has_id id l ≡ b → length ls ≤ length (without_lease id ls) + 1
        → length (l ∷ ls) ≤ length (cond (not b) (l ∷ without_lease id ls) (without_lease id ls)) + 1
    kept true e k =
        let is : l.id ≡ id = (Decides-int_eq l.id id).0 e in
        omega (arith, ap length (without_lease-others id ls (others_behind id ls (rw is at h.0))))
    kept false e k = omega arith

-- ---- the lease that is due

abbrev due_of : ℕ → Option Lease → Option Lease
due_of clock None = None
due_of clock (Some l) = cond (leb l.deadline clock) (Some l) None

pub due-earliest : (clock : ℕ) (ls : List Lease) → due clock ls ≡ due_of clock (earliest ls)
due-earliest clock [] = refl
due-earliest clock (l ∷ ls) = rw (due-earliest clock ls) (joined (earliest ls))
  where
    joined : (o : Option Lease) → cond (leb l.deadline clock) (sooner l (due_of clock o)) (due_of clock o) ≡ due_of clock (sooner l o)
    joined None = refl
    joined (Some m) = chosen (leb l.deadline clock) (leb m.deadline clock) (is_sooner l m) refl refl refl
      where
        chosen : (p q s : Bool) → p ≡ leb l.deadline clock → q ≡ leb m.deadline clock → s ≡ is_sooner l m
            → cond p (sooner l (cond q (Some m) None)) (cond q (Some m) None) ≡ due_of clock (cond s (Some l) (Some m))
        chosen true true true ep eq es = rw (← es, ← ep)
        chosen true true false ep eq es = rw (← es, ← eq)
        chosen true false true ep eq es = rw (← ep)
        chosen true false false ep eq es =
            let under : l.deadline < m.deadline = grind (arith, nat_tests, ep, eq) in
            absurd (cc (rw (lt-ltb l.deadline m.deadline under) at es))
        chosen false true true ep eq es =
            let over : m.deadline < l.deadline = grind (arith, nat_tests, ep, eq) in
            absurd (cc (rw (le-ltb l.deadline m.deadline (omega arith), ne_eqb l.deadline m.deadline (omega arith)) at es))
        chosen false true false ep eq es = rw (← eq)
        chosen false false true ep eq es = rw (← ep)
        chosen false false false ep eq es = rw (← eq)
