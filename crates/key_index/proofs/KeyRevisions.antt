-- Rising revisions of one key.
use Rattle.std.proofs.Common.{◌≡◌, ℕ, zero, suc, ◌<◌, ◌≤◌, ◌-◌, List, [], ◌∷◌, ◌++◌, length, Bool, true, false, not, ◌&&◌, ◌==◌}
use Rattle.std.proofs.Common.{cond, drop, find, Option, None, Some, option_map, Bor, refl, sym, ◌∙◌, ap, subst, arith}
use Rattle.std.proofs.lemmas.Bool.{ltb-true}
use Rattle.std.proofs.lemmas.Bool.Decides.{nat_tests}
use Rattle.std.proofs.lemmas.List.{append-nil}
use Rattle.std.proofs.lemmas.Option.{slice_get_read}
use Rattle.std.specs.Prelude.{nat_lt, option_to_list}
use Rattle.std.specs.Option.{option_or}
use Rattle.std.specs.Slice.{IsGetResult}
use Rattle.std.specs.List.{AllByRecursion, slice_get}
use Rattle.std.specs.List.Sorted.{IsPartitionedBy}
use Rattle.kv_model.specs.declared.version.Rev.{Rev}
use Rattle.kv_model.specs.Lists.{is_empty}
use Rattle.kv_model.specs.History.{rev_lt, rev_le}
use Rattle.store_laws.specs.Rising.{is_of}
use Rattle.store_laws.proofs.RevOrder.{rev_lt-main, rev_lt-mains, rev_lt-up_to, rev_lt-beyond, rev_lt-opposite, is_rev-same}
use Rattle.store_laws.proofs.Rising as rising
use Rattle.key_index.specs.KeyRevisions.{IsBehind, IsRising, newest, ends_in, after_place, at_place, second_after, undone, count_up_to, count_before}
use Rattle.key_index.specs.KeyRevisions.{is_oldest, without}

abbrev pub IsAbove : Rev → List Rev → Type 0
IsAbove p qs = rising.IsAbove (λ q. q) p qs

-- ---- the last one

-- what `back` lends is the last one
pub newest-back : (qs : List Rev) (n : ℕ) → n ≡ length qs → (r : Option (Bor Rev)) → IsGetResult qs 0 (n - 1) r
    → option_map (λ (x : Bor Rev). x.now) r ≡ newest qs
newest-back [] n e None h = refl
newest-back (q ∷ qs) n e None h = absurd (grind (arith, nat_tests, h.0))
newest-back qs n e (Some x) h =
    let some : 0 < length qs = grind (arith, nat_tests, h.0) in
    sym (slice_get_read qs (length qs) (n - 1) x.now refl (omega arith) h.1) ∙ ap (λ k. slice_get qs (k - 1)) e
    ∙ rising.slice_get-newest qs

-- the last one is the last at a place, where it is not after it
pub newest-at : (p : Rev) (qs : List Rev) (l : Rev) → newest qs ≡ Some l → rev_le l p ≡ true → at_place p qs ≡ Some l
newest-at p [] l e h = cc
newest-at p (q ∷ []) l e h =
    let same : q ≡ l = cc in
    subst (λ u. cond (rev_le u p) (Some u) None ≡ Some l) (sym same) (ap (λ b. cond b (Some l) None) h)
newest-at p (q ∷ r ∷ rs) l e h =
    ap (λ o. option_or o (cond (rev_le q p) (Some q) None)) (newest-at p (r ∷ rs) l (rising.newest-cons q r rs ∙ e) h)

pub none-at : (p : Rev) (qs : List Rev) → newest qs ≡ None → at_place p qs ≡ None
none-at p qs e = ap (at_place p) (rising.newest-none qs e)

-- ---- a main revision is taken back

undone-push : (main : ℕ) (qs : List Rev) (q : Rev) → (q.main == main) ≡ true → undone main (qs ++ q ∷ []) ≡ undone main qs
undone-push main [] q h = ap (λ b. cond b [] (q ∷ [])) h
undone-push main (r ∷ rs) q h = ap (λ us. cond (is_empty us && r.main == main) [] (r ∷ us)) (undone-push main rs q h)

-- one step of taking back: the last one goes, where it is of the main revision
pub undone-pop : (main : ℕ) (qs rs : List Rev) (o : Option Rev) → qs ≡ rs ++ option_to_list o → ends_in main qs ≡ true
    → undone main rs ≡ undone main qs
undone-pop main qs rs None e h = ap (undone main) (sym (append-nil rs) ∙ sym e)
undone-pop main qs rs (Some q) e h =
    let last : (q.main == main) ≡ true = sym (ap (is_of (λ (r : Rev). r) main) (ap newest e ∙ rising.newest-push rs q)) ∙ h in
    sym (ap (undone main) e ∙ undone-push main rs q last)

pub undone-same : (main : ℕ) (qs : List Rev) → ends_in main qs ≡ false → undone main qs ≡ qs
undone-same main [] h = refl
undone-same main (q ∷ []) h = ap (λ b. cond b [] (q ∷ [])) h
undone-same main (q ∷ r ∷ rs) h =
    ap (λ us. cond (is_empty us && q.main == main) [] (q ∷ us))
    (undone-same main (r ∷ rs) (ap (is_of (λ (r : Rev). r) main) (rising.newest-cons q r rs) ∙ h))

-- what holds of each revision holds of each that is left
pub each-undone : (P : Rev → Type 0) (main : ℕ) (qs : List Rev) → AllByRecursion P qs → AllByRecursion P (undone main qs)
each-undone P main [] a = tt
each-undone P main (q ∷ qs) a = by (is_empty (undone main qs) && q.main == main) (each-undone P main qs a.1)
  where
    by : (b : Bool) → AllByRecursion P (undone main qs) → AllByRecursion P (cond b [] (q ∷ undone main qs))
    by true rest = tt
    by false rest = (a.0, rest)

pub rising-undone : (main : ℕ) (qs : List Rev) → IsRising qs → IsRising (undone main qs)
rising-undone main [] r = tt
rising-undone main (q ∷ qs) r = by (is_empty (undone main qs) && q.main == main) (rising-undone main qs r.1)
  where
    by : (b : Bool) → IsRising (undone main qs) → IsRising (cond b [] (q ∷ undone main qs))
    by true rest = tt
    by false rest = (each-undone (λ p. rev_lt q p ≡ true) main qs r.0, rest)

-- what is of a main revision goes, and what is before it stays
undone-all : (main : ℕ) (qs : List Rev) → AllByRecursion (λ q. (q.main == main) ≡ true) qs → undone main qs ≡ []
undone-all main [] h = refl
undone-all main (q ∷ qs) h =
    ap (λ us. cond (is_empty us && q.main == main) [] (q ∷ us)) (undone-all main qs h.1) ∙ ap (λ b. cond b [] (q ∷ [])) h.0

pub undone-append : (main : ℕ) (qs rs : List Rev) → AllByRecursion (λ q. (q.main == main) ≡ false) qs
    → AllByRecursion (λ q. (q.main == main) ≡ true) rs → undone main (qs ++ rs) ≡ qs
undone-append main [] rs h g = undone-all main rs g
undone-append main (q ∷ qs) rs h g =
    ap (λ us. cond (is_empty us && q.main == main) [] (q ∷ us)) (undone-append main qs rs h.1 g)
    ∙ by (is_empty qs) (q.main == main) h.0
  where
    by : (a b : Bool) → b ≡ false → cond (a && b) [] (q ∷ qs) ≡ q ∷ qs
    by true true e = cc
    by true false e = refl
    by false b e = refl

-- twice is once
pub undone-undone : (main : ℕ) (qs : List Rev) → undone main (undone main qs) ≡ undone main qs
undone-undone main [] = refl
undone-undone main (q ∷ qs) = by (is_empty (undone main qs) && q.main == main) refl (undone-undone main qs)
  where
    by : (b : Bool) → (is_empty (undone main qs) && q.main == main) ≡ b → undone main (undone main qs) ≡ undone main qs
        → undone main (cond b [] (q ∷ undone main qs)) ≡ cond b [] (q ∷ undone main qs)
    by true e rest = refl
    by false e rest =
        ap (λ us. cond (is_empty us && q.main == main) [] (q ∷ us)) rest ∙ ap (λ b. cond b [] (q ∷ undone main qs)) e

-- ---- what is not after a place

none-after : (p q : Rev) (rs : List Rev) → rev_le q p ≡ false → IsAbove q rs → at_place p rs ≡ None
none-after p q [] h a = refl
none-after p q (r ∷ rs) h a =
    ap (λ o. option_or o (cond (rev_le r p) (Some r) None)) (none-after p q rs h a.1)
    ∙ ap (λ b. cond b (Some r) None) (rev_lt-beyond q r p a.0 h)

-- the one before an index, counted from one
abbrev before_index : ℕ → List Rev → Option Rev
before_index zero qs = None
before_index (suc n) qs = slice_get qs n

or_there : (q : Rev) (qs : List Rev) (n : ℕ) → n ≤ length qs → option_or (before_index n qs) (Some q) ≡ slice_get (q ∷ qs) n
or_there q qs zero h = refl
or_there q [] (suc n) h = absurd (omega arith)
or_there q (r ∷ qs) (suc zero) h = refl
or_there q (r ∷ qs) (suc (suc n)) h = or_there q qs (suc n) (omega arith)

last-count : (p : Rev) (qs : List Rev) → IsRising qs → at_place p qs ≡ before_index (count_up_to p qs) qs
last-count p [] r = refl
last-count p (q ∷ qs) r = by (rev_le q p) refl (last-count p qs r.1)
  where
    by : (b : Bool) → rev_le q p ≡ b → at_place p qs ≡ before_index (count_up_to p qs) qs
        → option_or (at_place p qs) (cond b (Some q) None) ≡ before_index (cond b (suc (count_up_to p qs)) zero) (q ∷ qs)
    by true e rest =
        ap (λ o. option_or o (Some q)) rest ∙ or_there q qs (count_up_to p qs) (rising.count_while-le (λ r. rev_le r p) qs)
    by false e rest = ap (λ o. option_or o None) (none-after p q qs e r.0)

pub at_place-some : (p : Rev) (qs : List Rev) (n i : ℕ) → IsRising qs → n ≡ count_up_to p qs → 1 ≤ n → n - 1 ≡ i
    → slice_get qs i ≡ at_place p qs
at_place-some p qs zero i r e h g = absurd (omega arith)
at_place-some p qs (suc n) i r e h g =
    let same : i ≡ n = omega arith in
    ap (slice_get qs) same ∙ ap (λ k. before_index k qs) e ∙ sym (last-count p qs r)

pub at_place-none : (p : Rev) (qs : List Rev) (n : ℕ) → IsRising qs → n ≡ count_up_to p qs → (1 ≤ n → ⊥) → None ≡ at_place p qs
at_place-none p qs zero r e h = ap (λ k. before_index k qs) e ∙ sym (last-count p qs r)
at_place-none p qs (suc n) r e h = absurd (h (omega arith))

-- what is not after a place comes before what is
pub partitioned : (p : Rev) (qs : List Rev) → IsRising qs → IsPartitionedBy (λ q. rev_le q p) qs
partitioned p = rising.partitioned (λ q. q) (λ q. rev_le q p) (λ q r h g. rev_lt-up_to q r p h g)

-- what is of an earlier main revision comes before what is not
pub mains-partitioned : (main : ℕ) (qs : List Rev) → IsRising qs → IsPartitionedBy (λ q. nat_lt q.main main) qs
mains-partitioned main =
    rising.partitioned (λ q. q) (λ q. nat_lt q.main main) (λ q r h g. let l : q.main ≤ r.main = rev_lt-main q r h in grind (arith, nat_tests))

-- where none is left behind those of earlier main revisions, a revision of this one stands behind all
pub behind-counted : (main sub : ℕ) (qs : List Rev) → slice_get qs (count_before main qs) ≡ None
    → IsBehind (record { main = main; sub = sub }) qs
behind-counted main sub [] e = tt
behind-counted main sub (q ∷ qs) e = by (nat_lt q.main main) refl e (behind-counted main sub qs)
  where
    by : (b : Bool) → nat_lt q.main main ≡ b → slice_get (q ∷ qs) (cond b (suc (count_before main qs)) zero) ≡ None
        → (slice_get qs (count_before main qs) ≡ None → IsBehind (record { main = main; sub = sub }) qs)
        → IsBehind (record { main = main; sub = sub }) (q ∷ qs)
    by true f g rest = (rev_lt-mains q (record { main = main; sub = sub }) (ltb-true q.main main f), rest g)
    by false f g rest = cc

-- ---- what is after a place

pub find-after : (p : Rev) (qs : List Rev) → find (λ q. rev_lt p q) qs ≡ slice_get qs (count_up_to p qs)
find-after p qs = (λ i. find (λ q. rev_lt-opposite p q i) qs) ∙ rising.find-not (λ q. rev_le q p) qs

-- where the place lies between the oldest two, the second is the first after it
pub second_after-first : (p : Rev) (qs : List Rev) (r : Rev) → Some r ≡ second_after p qs → Some r ≡ after_place p qs
second_after-first p [] r e = absurd cc
second_after-first p (a ∷ []) r e = absurd cc
second_after-first p (a ∷ b ∷ qs) r e = by (rev_le a p) (rev_lt p b) refl refl e
  where
    by : (x y : Bool) → rev_le a p ≡ x → rev_lt p b ≡ y → Some r ≡ cond (x && y) (Some b) None → Some r ≡ after_place p (a ∷ b ∷ qs)
    by true true h g f =
        let past : rev_lt p a ≡ false = rev_lt-opposite p a ∙ ap not h in
        f ∙ sym (λ i. cond (past i) (Some a) (cond (g i) (Some b) (find (λ s. rev_lt p s) qs)))
    by true false h g f = absurd cc
    by false y h g f = absurd cc

-- ---- a revision taken out

-- the first one that is at the place goes alone
pub oldest-without : (p : Rev) (qs : List Rev) → IsRising qs → is_oldest p qs ≡ true → drop 1 qs ≡ without p qs
oldest-without p [] r h = refl
oldest-without p (q ∷ qs) r h =
    sym (ap (λ b. cond (not b) (q ∷ without p qs) (without p qs)) h
    ∙ rising.others-above (λ r. r) p qs (subst (λ (r : Rev). IsAbove r qs) (is_rev-same p q h) r.0))

-- ---- a list of one revision or none

pub few-one : (qs : List Rev) (q : Rev) → Some q ≡ slice_get qs 0 → length qs < 2 → q ∷ [] ≡ qs
few-one [] q e h = absurd cc
few-one (r ∷ []) q e h = let same : q ≡ r = cc in ap (λ p. p ∷ []) same
few-one (r ∷ s ∷ qs) q e h = absurd (omega arith)

pub few-none : (qs : List Rev) → None ≡ slice_get qs 0 → [] ≡ qs
few-none [] e = refl
few-none (r ∷ qs) e = absurd cc

pub many-not_empty : (qs : List Rev) → 2 ≤ length qs → false ≡ is_empty qs
many-not_empty [] h = absurd (omega arith)
many-not_empty (r ∷ qs) h = refl
