-- A place found by its number.
use Rattle.std.proofs.Common.{◌≡◌, ◌≢◌, ℕ, zero, suc, ◌<◌, ◌≤◌, List, [], ◌∷◌, length, get_or, Bool, true, false, ◌==◌, cond, Option, None}
use Rattle.std.proofs.Common.{Some, option_map, refl, sym, ◌∙◌, ap, arith}
use Rattle.std.specs.Prelude.{nat_lt}
use Rattle.std.specs.List.{AllByRecursion, slice_get}
use Rattle.std.specs.List.Sorted.{IsPartitionedBy, IsPartitionPoint}
use Rattle.std.proofs.lemmas.Bool.Decides.{nat_tests}
use Rattle.watch_hub.specs.declared.entries.Place.{Place}
use Rattle.watch_hub.specs.Entries.{AreAscending, index_of, key_of}
use Rattle.watch_hub.proofs.Halving.{AreOrdered, partitioned as halves}

ordered : (ps : List Place) → AreAscending ps → AreOrdered (λ p q. p.number < q.number) ps
ordered [] r = tt
ordered (p ∷ ps) r = (r.0, ordered ps r.1)

pub partitioned : (n : ℕ) (ps : List Place) → AreAscending ps → IsPartitionedBy (λ p. nat_lt p.number n) ps
partitioned n ps r =
    halves (λ p q. p.number < q.number) (λ p. nat_lt p.number n) (λ p q l h. grind (arith, nat_tests)) ps (ordered ps r)

-- the index, where the place there has the number
abbrev pub index_if : ℕ → Option Place → ℕ → Option ℕ
index_if n None i = None
index_if n (Some p) i = cond (p.number == n) (Some i) None

index_if-suc : (n : ℕ) (o : Option Place) (i : ℕ) → option_map suc (index_if n o i) ≡ index_if n o (suc i)
index_if-suc n None i = refl
index_if-suc n (Some p) i = by (p.number == n)
  where
    by : (b : Bool) → option_map suc (cond b (Some i) None) ≡ cond b (Some (suc i)) None
    by true = refl
    by false = refl

none-above : (n m : ℕ) (ps : List Place) → n ≤ m → AllByRecursion (λ q. m < q.number) ps → index_of n ps ≡ None
none-above n m [] l a = refl
none-above n m (p ∷ ps) l a =
    let other : (p.number == n) ≡ false = let above = a.0 in grind (arith, nat_tests) in
    ap (λ b. cond b (Some 0) (option_map suc (index_of n ps))) other ∙ ap (option_map suc) (none-above n m ps l a.1)

-- what stands at the point of the halving
pub at-point : (n : ℕ) (ps : List Place) (i : ℕ) → AreAscending ps → i ≤ length ps
    → IsPartitionPoint (λ p. nat_lt p.number n ≡ true) (λ p. nat_lt p.number n ≡ false) ps i
    → index_of n ps ≡ index_if n (slice_get ps i) i
at-point n [] zero r h t = refl
at-point n [] (suc i) r h t = absurd (omega arith)
at-point n (p ∷ ps) zero r h t = by (p.number == n) refl
  where
    beyond : nat_lt p.number n ≡ false
    beyond = t.1 0 p (omega arith) (omega arith)

    by : (b : Bool) → (p.number == n) ≡ b → cond b (Some 0) (option_map suc (index_of n ps)) ≡ cond b (Some 0) None
    by true e = refl
    by false e = ap (option_map suc) (none-above n p.number ps (grind (arith, nat_tests, beyond)) r.0)
at-point n (p ∷ ps) (suc i) r h t =
    let below : nat_lt p.number n ≡ true = t.0 0 p (omega arith) (omega arith) in
    let other : (p.number == n) ≡ false = grind (arith, nat_tests) in
    ap (λ b. cond b (Some 0) (option_map suc (index_of n ps))) other
    ∙ ap (option_map suc) (at-point n ps i r.1 (omega arith)
    ((λ k d l m. t.0 (suc k) d (omega arith) (omega arith)), (λ k d l m. t.1 (suc k) d (omega arith) (omega arith))))
    ∙ index_if-suc n (slice_get ps i) i

-- the key at an index that was found
pub key-found : (n : ℕ) (ps : List Place) (i : ℕ) (d : Place) → index_of n ps ≡ Some i → key_of n ps ≡ Some (get_or ps i d).key
key-found n [] i d e = absurd (cc)
key-found n (p ∷ ps) i d e = by (λ j f. key-found n ps j d f) (p.number == n) i e
  where
    tail : ((j : ℕ) → index_of n ps ≡ Some j → key_of n ps ≡ Some (get_or ps j d).key) → (o : Option ℕ) → index_of n ps ≡ o → (i : ℕ)
        → option_map suc o ≡ Some i → key_of n ps ≡ Some (get_or (p ∷ ps) i d).key
    tail later None f i e = absurd (cc)
    tail later (Some j) f zero e = absurd (let g : suc j ≡ zero = cc in omega arith)
    tail later (Some j) f (suc i) e = later i (f ∙ (let g : suc j ≡ suc i = cc in ap Some (let h : j ≡ i = omega arith in h)))

    by : ((j : ℕ) → index_of n ps ≡ Some j → key_of n ps ≡ Some (get_or ps j d).key) → (b : Bool) (i : ℕ)
        → cond b (Some 0) (option_map suc (index_of n ps)) ≡ Some i → cond b (Some p.key) (key_of n ps) ≡ Some (get_or (p ∷ ps) i d).key
    by later true zero e = refl
    by later true (suc i) e = absurd (let g : zero ≡ suc i = cc in omega arith)
    by later false i e = tail later (index_of n ps) refl i e

pub key-missed : (n : ℕ) (ps : List Place) → index_of n ps ≡ None → key_of n ps ≡ None
key-missed n [] e = refl
key-missed n (p ∷ ps) e = by (key-missed n ps) (p.number == n) e
  where
    tail : (index_of n ps ≡ None → key_of n ps ≡ None) → (o : Option ℕ) → index_of n ps ≡ o → option_map suc o ≡ None → key_of n ps ≡ None
    tail later None f e = later f
    tail later (Some j) f e = absurd (cc)

    by : (index_of n ps ≡ None → key_of n ps ≡ None) → (b : Bool) → cond b (Some 0) (option_map suc (index_of n ps)) ≡ None
        → cond b (Some p.key) (key_of n ps) ≡ None
    by later true e = absurd (cc)
    by later false e = tail later (index_of n ps) refl e

-- ---- what the halving comes to

pub hit : (n : ℕ) (ps : List Place) (i : ℕ) (p : Place) → index_of n ps ≡ index_if n (slice_get ps i) i → slice_get ps i ≡ Some p
    → p.number ≡ n → Some i ≡ index_of n ps
hit n ps i p e s h =
    let same : (p.number == n) ≡ true = grind (arith, nat_tests) in
    sym (e ∙ ap (λ o. index_if n o i) s ∙ ap (λ b. cond b (Some i) None) same)

pub miss : (n : ℕ) (ps : List Place) (i : ℕ) (p : Place) → index_of n ps ≡ index_if n (slice_get ps i) i → slice_get ps i ≡ Some p
    → p.number ≢ n → None ≡ index_of n ps
miss n ps i p e s h =
    let other : (p.number == n) ≡ false = grind (arith, nat_tests) in
    sym (e ∙ ap (λ o. index_if n o i) s ∙ ap (λ b. cond b (Some i) None) other)

pub past : (n : ℕ) (ps : List Place) (i : ℕ) → index_of n ps ≡ index_if n (slice_get ps i) i → slice_get ps i ≡ None → None ≡ index_of n ps
past n ps i e s = sym (e ∙ ap (λ o. index_if n o i) s)
