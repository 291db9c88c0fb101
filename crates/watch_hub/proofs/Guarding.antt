-- Guards in order, and their ways back.
use Rattle.std.proofs.Common.{◌≡◌, ◌≢◌, ℕ, zero, suc, ◌+◌, ◌<◌, ◌≤◌, List, [], ◌∷◌, length, get_or, set, filter, Bool, true, false, not}
use Rattle.std.proofs.Common.{◌==◌, cond, Option, None, Some, refl, sym, ◌∙◌, ap, subst, arith}
use Rattle.std.specs.Prelude.{nat_lt}
use Rattle.std.specs.List.{AllByRecursion, insert}
use Rattle.std.specs.List.Sorted.{IsPartitionedBy}
use Rattle.std.proofs.lemmas.Bool.Decides.{nat_tests}
use Rattle.std.proofs.lemmas.List.{get_or-set_same, get_or-set_other, get_or_default}
use Rattle.kv_model.specs.declared.version.KeyRange.{KeyRange}
use Rattle.watch_hub.specs.declared.guards.Guard.{Guard}
use Rattle.watch_hub.specs.Guards.{first_key, has_begun, ends_by, EndsBy, begins_before, AreInOrder, IsBack, AreBacks, AreBegun}
use Rattle.watch_hub.specs.Guards.{AreFar, AreToCome, IsFar, range_at}
use Rattle.watch_hub.proofs.Halving.{AreOrdered, partitioned as halves}
use Rattle.watch_hub.proofs.Ends.{le-trans, not_le-le, ends-before}

-- ---- the order

ordered : (gs : List Guard) → AreInOrder gs → AreOrdered begins_before gs
ordered [] r = tt
ordered (g ∷ gs) r = (r.0, ordered gs r.1)

pub partitioned : (k : List ℕ) (gs : List Guard) → AreInOrder gs → IsPartitionedBy (λ g. has_begun g.range k) gs
partitioned k gs r =
    halves begins_before (λ g. has_begun g.range k) (λ g h l p. le-trans (first_key g.range) (first_key h.range) k l p) gs (ordered gs r)

each-insert : (P : Guard → Type 0) (gs : List Guard) (i : ℕ) (g : Guard) → AllByRecursion P gs → P g → AllByRecursion P (insert gs i g)
each-insert P gs zero g a h = (h, a)
each-insert P [] (suc i) g a h = (h, tt)
each-insert P (f ∷ gs) (suc i) g a h = (a.0, each-insert P gs i g a.1 h)

-- what begins behind all of the others
each-later : (g : Guard) (gs : List Guard) → AreToCome gs (first_key g.range) 0 → AllByRecursion (begins_before g) gs
each-later g [] h = tt
each-later g (f ∷ gs) h = (
  not_le-le (first_key f.range) (first_key g.range) (h 0 f (omega arith) (omega arith)),
  each-later g gs (λ j d l m. h (suc j) d (omega arith) (omega arith)),
)

pub order-insert : (gs : List Guard) (i : ℕ) (g : Guard) → AreInOrder gs → i ≤ length gs → AreBegun gs (first_key g.range) i
    → AreToCome gs (first_key g.range) i → AreInOrder (insert gs i g)
order-insert gs zero g r l b c = (each-later g gs c, r)
order-insert [] (suc i) g r l b c = (tt, tt)
order-insert (f ∷ gs) (suc i) g r l b c = (
  each-insert (begins_before f) gs i g r.0 (b 0 f (omega arith)),
  order-insert gs i g r.1 (omega arith) (λ j d m. b (suc j) d (omega arith)) (λ j d m n. c (suc j) d (omega arith) (omega arith)),
)

each-filter : (P : Guard → Type 0) (p : Guard → Bool) (gs : List Guard) → AllByRecursion P gs → AllByRecursion P (filter p gs)
each-filter P p [] a = tt
each-filter P p (g ∷ gs) a = by (p g) (each-filter P p gs a.1)
  where
    by : (b : Bool) → AllByRecursion P (filter p gs) → AllByRecursion P (cond b (g ∷ filter p gs) (filter p gs))
    by true rest = (a.0, rest)
    by false rest = rest

pub order-filter : (p : Guard → Bool) (gs : List Guard) → AreInOrder gs → AreInOrder (filter p gs)
order-filter p [] r = tt
order-filter p (g ∷ gs) r = by (p g) (order-filter p gs r.1)
  where
    by : (b : Bool) → AreInOrder (filter p gs) → AreInOrder (cond b (g ∷ filter p gs) (filter p gs))
    by true rest = (each-filter (begins_before g) p gs r.0, rest)
    by false rest = rest

-- ---- the ways back

-- before a guard that ends no later, as far back as that one tells
pub back-further : (gs : List Guard) (i m c : ℕ) → i < length gs → IsBack gs i (m + 1) → IsBack gs m c → (x y : Guard)
    → ends_by (get_or gs m x).range (get_or gs i y).range ≡ true → IsBack gs i c
back-further gs i m c w h g x y t = ((let l = h.0 in let n = g.0 in omega arith), λ j d l n. by j d l n (nat_lt j m) refl (j == m) refl)
  where
    last : (d : Guard) → EndsBy (get_or gs m d).range (get_or gs i d).range
    last d = ends-before (get_or gs m d).range (get_or gs i d).range
        ((λ q. ends_by (get_or_default gs m d x (let l = h.0 in omega (arith, w)) q).range (get_or_default gs i d y w q).range) ∙ t)

    by : (j : ℕ) (d : Guard) → c ≤ j → j < i → (b : Bool) → nat_lt j m ≡ b → (e : Bool) → (j == m) ≡ e
        → EndsBy (get_or gs j d).range (get_or gs i d).range
    by j d l n true f e q = λ k p. g.1 j d l (grind (arith, nat_tests)) k (last d k p)
    by j d l n false f true q = subst (λ x. EndsBy (get_or gs x d).range (get_or gs i d).range) (let same : m ≡ j = grind (arith, nat_tests) in same) (last d)
    by j d l n false f false q = h.1 j d (grind (arith, nat_tests)) n

-- one way back more
pub backs-more : (gs : List Guard) (bs : List ℕ) (i b : ℕ) → AreBacks gs bs i → IsBack gs i b → i < length bs
    → AreBacks gs (set bs i b) (i + 1)
backs-more gs bs i b h g l j e m = by (j == i) refl
  where
    by : (q : Bool) → (j == i) ≡ q → IsBack gs j (get_or (set bs i b) j e)
    by true f =
        let same : i ≡ j = grind (arith, nat_tests) in
        subst (λ x. IsBack gs x (get_or (set bs i b) x e)) same (subst (λ x. IsBack gs i x) (sym (get_or-set_same bs i b e l)) g)
    by false f =
        let other : j ≢ i = grind (arith, nat_tests) in
        let below : j < i = grind (arith, nat_tests) in
        subst (λ x. IsBack gs j x) (sym (get_or-set_other bs i j b e other)) (h j e below)

pub far-more : (gs : List Guard) (bs : List ℕ) (i b : ℕ) → AreFar gs bs i → IsFar gs i b → i < length bs
    → AreFar gs (set bs i b) (i + 1)
far-more gs bs i b h g l j e m = by (j == i) refl
  where
    by : (q : Bool) → (j == i) ≡ q → IsFar gs j (get_or (set bs i b) j e)
    by true f =
        let same : i ≡ j = grind (arith, nat_tests) in
        subst (λ x. IsFar gs x (get_or (set bs i b) x e)) same (subst (λ x. IsFar gs i x) (sym (get_or-set_same bs i b e l)) g)
    by false f =
        let other : j ≢ i = grind (arith, nat_tests) in
        let below : j < i = grind (arith, nat_tests) in
        subst (λ x. IsFar gs j x) (sym (get_or-set_other bs i j b e other)) (h j e below)

-- ---- what stands under a place

-- the range at a place of which no other guard is
pub range-insert : (gs : List Guard) (i : ℕ) (g : Guard) → range_at g.place gs ≡ None → (p : ℕ)
    → range_at p (insert gs i g) ≡ cond (g.place == p) (Some g.range) (range_at p gs)
range-insert gs zero g h p = refl
range-insert [] (suc i) g h p = refl
range-insert (f ∷ gs) (suc i) g h p = by (λ n. range-insert gs i g n p) (f.place == g.place) refl h (f.place == p) refl
  where
    by : (range_at g.place gs ≡ None → range_at p (insert gs i g) ≡ cond (g.place == p) (Some g.range) (range_at p gs)) → (a : Bool)
        → (f.place == g.place) ≡ a → cond a (Some f.range) (range_at g.place gs) ≡ None → (b : Bool) → (f.place == p) ≡ b
        → cond b (Some f.range) (range_at p (insert gs i g)) ≡ cond (g.place == p) (Some g.range) (cond b (Some f.range) (range_at p gs))
    by later true e n b q = cc
    by later false e n true q =
        let other : (g.place == p) ≡ false = grind (arith, nat_tests) in
        ap (λ t. cond t (Some g.range) (Some f.range)) (sym other)
    by later false e n false q = later n

pub range-removed : (place : ℕ) (gs : List Guard) (p : ℕ)
    → range_at p (filter (λ g. not (g.place == place)) gs) ≡ cond (place == p) None (range_at p gs)
range-removed place [] p = by (place == p)
  where
    none : Option KeyRange
    none = None

    by : (b : Bool) → none ≡ cond b none none
    by true = refl
    by false = refl
range-removed place (g ∷ gs) p = by (g.place == place) refl (range-removed place gs p) (g.place == p) refl
  where
    left : List Guard
    left = filter (λ f. not (f.place == place)) gs

    by : (a : Bool) → (g.place == place) ≡ a → range_at p left ≡ cond (place == p) None (range_at p gs) → (b : Bool) → (g.place == p) ≡ b
        → range_at p (cond (not a) (g ∷ left) left) ≡ cond (place == p) None (cond b (Some g.range) (range_at p gs))
    by true e later true q =
        let same : (place == p) ≡ true = grind (arith, nat_tests) in
        later ∙ ap (λ t. cond t None (range_at p gs)) same ∙ ap (λ t. cond t None (Some g.range)) (sym same)
    by true e later false q = later
    by false e later true q =
        let other : (place == p) ≡ false = grind (arith, nat_tests) in
        ap (λ t. cond t (Some g.range) (range_at p left)) q ∙ ap (λ t. cond t None (Some g.range)) (sym other)
    by false e later false q = ap (λ t. cond t (Some g.range) (range_at p left)) q ∙ later

-- a guard of the place and the range
pub record GuardOf (gs : List Guard) (place : ℕ) (range : KeyRange) : Type 0 where
  pub index : ℕ
  pub within : index < length gs
  pub place_is : (d : Guard) → (get_or gs index d).place ≡ place
  pub range_is : (d : Guard) → (get_or gs index d).range ≡ range

pub guard-of : (gs : List Guard) (place : ℕ) (range : KeyRange) → range_at place gs ≡ Some range → GuardOf gs place range
guard-of [] place range h = absurd (cc)
guard-of (g ∷ gs) place range h = by (λ f. guard-of gs place range f) (g.place == place) refl h
  where
    later : GuardOf gs place range → GuardOf (g ∷ gs) place range
    later f = record { index = suc f.index; within = (let l = f.within in omega arith); place_is = f.place_is; range_is = f.range_is }

    by : (range_at place gs ≡ Some range → GuardOf gs place range) → (b : Bool) → (g.place == place) ≡ b
        → cond b (Some g.range) (range_at place gs) ≡ Some range → GuardOf (g ∷ gs) place range
    by rest true e f = record {
      index = 0;
      within = omega arith;
      place_is = λ d. (let same : g.place ≡ place = grind (arith, nat_tests) in same);
      range_is = λ d. (let same : g.range ≡ range = cc in same);
    }
    by rest false e f = later (rest f)
