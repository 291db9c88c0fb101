-- The changes that a path makes, counted in the versions after it: each operation finds in them, at its place, what those before it left.
use Rattle.std.proofs.Common.{◌≡◌, ◌≤◌, ◌<◌, ℕ, zero, suc, ◌+◌, ◌-◌, List, [], ◌∷◌, ◌++◌, length, Bool, true, false, refl, sym, ◌∙◌, ap}
use Rattle.std.proofs.Common.{subst, append_assoc, add-one, arith, length-append}
use Rattle.std.specs.List.{AllByRecursion}
use Rattle.std.specs.declared.cmp.Ordering.{Ordering}
use Rattle.std.specs.declared.cmp.Ordering.TheVariants.{Less, Equal, Greater}
use Rattle.std.specs.Ordering.{nat_cmp, ordering_then, is_le, MatchOrdering}
use Rattle.std.specs.Cmp.{ranks}
use Rattle.std.proofs.lemmas.List.{length-map, append-nil}
use Rattle.kv_model.specs.declared.version.Rev.{Rev}
use Rattle.kv_model.specs.declared.version.Version.{Version}
use Rattle.kv_model.specs.declared.version.KeyRange.{KeyRange}
use Rattle.kv_model.specs.declared.call.PutRequest.{PutRequest}
use Rattle.kv_model.specs.History.{Mutation, KeyValue, value_at, end_of, rev_le}
use Rattle.kv_model.specs.Ranges.{live, live_now, keys_of}
use Rattle.kv_model.specs.Txns.{Path, Touch, extend_all, added_by, put_change, deletes_of, delete_changes, effect, place_before, changes_of}
use Rattle.store_laws.specs.Plans.{path_touches, still_live, planned}
use Rattle.store_laws.proofs.KeyLaws.{live-same}
use Rattle.store_laws.proofs.PlaceLaws.{AreBy, AreBehind, each-map, each-append, value_at-behind, rev_le-before, rev_le-after}
use Rattle.store_laws.proofs.GoodLaws.{live_now-by}
use Rattle.store_laws.proofs.BatchLaws.{extend_all-added, each-added}
use Rattle.store_laws.proofs.TouchLaws.{AreClear}
use Rattle.store_laws.proofs.PlanLaws.{NoClash, inner-clear, clear-front, put-clear, delete-clear, live-taken, extend_all-append}
use Rattle.store_laws.proofs.PlanLaws.{effect-planned}
use Rattle.store_laws.proofs.PlanBatch.{deletes-length, planned-length}

-- ---- the order of places, in numbers

rev_le-main : (p q : Rev) → rev_le p q ≡ true → p.main ≤ q.main
rev_le-main p q h = by (nat_cmp p.main q.main) (ranks p.main q.main) (nat_cmp p.sub q.sub) h
  where
    by : (o : Ordering) → MatchOrdering o (p.main < q.main) (p.main ≡ q.main) (q.main < p.main) → (t : Ordering) → is_le (ordering_then o t)
        ≡ true → p.main ≤ q.main
    by Less a t e = omega arith
    by Equal a t e = omega arith
    by Greater a t e = cc

rev_le-subs : (p q : Rev) → p.main ≡ q.main → p.sub ≤ q.sub → rev_le p q ≡ true
rev_le-subs p q e h = by (nat_cmp p.main q.main) (ranks p.main q.main) (nat_cmp p.sub q.sub) (ranks p.sub q.sub)
  where
    by : (o : Ordering) → MatchOrdering o (p.main < q.main) (p.main ≡ q.main) (q.main < p.main)
        → (t : Ordering) → MatchOrdering t (p.sub < q.sub) (p.sub ≡ q.sub) (q.sub < p.sub) → is_le (ordering_then o t) ≡ true
    by Less a t b = refl
    by Equal a Less b = refl
    by Equal a Equal b = refl
    by Equal a Greater b = absurd (omega arith)
    by Greater a t b = absurd (omega arith)

rev_le-not : (p q : Rev) → p.main ≡ q.main → q.sub < p.sub → rev_le p q ≡ false
rev_le-not p q e h = by (nat_cmp p.main q.main) (ranks p.main q.main) (nat_cmp p.sub q.sub) (ranks p.sub q.sub)
  where
    by : (o : Ordering) → MatchOrdering o (p.main < q.main) (p.main ≡ q.main) (q.main < p.main)
        → (t : Ordering) → MatchOrdering t (p.sub < q.sub) (p.sub ≡ q.sub) (q.sub < p.sub) → is_le (ordering_then o t) ≡ false
    by Less a t b = absurd (omega arith)
    by Equal a Less b = absurd (omega arith)
    by Equal a Equal b = absurd (omega arith)
    by Equal a Greater b = refl
    by Greater a t b = refl

-- ---- changes before a number, and from it on

pub record IsEarly (main k : ℕ) (u : Mutation) : Type 0 where
  pub at : u.rev.main ≡ main
  pub below : u.rev.sub < k

pub record IsLate (main k : ℕ) (u : Mutation) : Type 0 where
  pub at : u.rev.main ≡ main
  pub from : k ≤ u.rev.sub

early-less : (main j k : ℕ) → j ≤ k → (us : List Mutation) → AllByRecursion (IsEarly main j) us → AllByRecursion (IsEarly main k) us
early-less main j k l us h = each-map (IsEarly main j) (IsEarly main k) (λ u e. record { at = e.at; below = omega (arith, e.below) }) us h

late-more : (main j k : ℕ) → j ≤ k → (us : List Mutation) → AllByRecursion (IsLate main k) us → AllByRecursion (IsLate main j) us
late-more main j k l us h = each-map (IsLate main k) (IsLate main j) (λ u e. record { at = e.at; from = omega (arith, e.from) }) us h

deletes-early : (main k sub : ℕ) (ks : List (List ℕ)) → sub + length ks ≤ k → AllByRecursion (IsEarly main k) (deletes_of main sub ks)
deletes-early main k sub [] l = tt
deletes-early main k sub (x ∷ ks) l = (record { at = refl; below = omega arith }, deletes-early main k (suc sub) ks (omega arith))

deletes-late : (main k sub : ℕ) (ks : List (List ℕ)) → k ≤ sub → AllByRecursion (IsLate main k) (deletes_of main sub ks)
deletes-late main k sub [] l = tt
deletes-late main k sub (x ∷ ks) l = (record { at = refl; from = l }, deletes-late main k (suc sub) ks (omega arith))

-- the changes of a path stand from its first number on
effect-late : (main k sub : ℕ) (vs : List Version) (q : Path) → k ≤ sub → AllByRecursion (IsLate main k) (effect vs main sub q)
unfolding effect
effect-late main k sub vs Path.end l = tt
effect-late main k sub vs (Path.range q rest) l = effect-late main k sub vs rest l
effect-late main k sub vs (Path.put p rest) l = (record { at = refl; from = l }, effect-late main k (suc sub) _ rest (omega arith))
effect-late main k sub vs (Path.delete d rest) l =
    each-append (IsLate main k) (delete_changes vs main sub d) _ (deletes-late main k sub (keys_of (live_now vs d.range)) l)
    (effect-late main k _ _ rest (omega arith))
effect-late main k sub vs (Path.txn b inner rest) l =
    each-append (IsLate main k) (effect vs main sub inner) _ (effect-late main k sub vs inner l) (effect-late main k _ _ rest (omega arith))

-- and before the number that follows them
put-early : (vs : List Version) (main : ℕ) (us : List Mutation) (p : PutRequest) → AllByRecursion (IsEarly main (length us)) us
    → AllByRecursion (IsEarly main (length (us ++ put_change vs main (length us) p ∷ []))) (us ++ put_change vs main (length us) p ∷ [])
put-early vs main us p h =
    let m : Mutation = put_change vs main (length us) p in
    let more : length (us ++ m ∷ []) ≡ length us + 1 = length-append us (m ∷ []) in
    each-append (IsEarly main (length (us ++ m ∷ []))) us (m ∷ []) (early-less main (length us) (length (us ++ m ∷ [])) (omega (
      arith,
      more,
    )) us h) (record { at = refl; below = omega (arith, more) }, tt)

taken-more : (vs : List Version) (main : ℕ) (us : List Mutation) (r : KeyRange)
    → length (us ++ deletes_of main (length us) (still_live vs us r)) ≡ length us + length (still_live vs us r)
taken-more vs main us r = length-append us (deletes_of main (length us) (still_live vs us r))
    ∙ ap (λ k. length us + k) (deletes-length main (length us) (still_live vs us r))

delete-early : (vs : List Version) (main : ℕ) (us : List Mutation) (r : KeyRange) → AllByRecursion (IsEarly main (length us)) us
    → AllByRecursion (IsEarly main (length (us ++ deletes_of main (length us) (still_live vs us r)))) (us
    ++ deletes_of main (length us) (still_live vs us r))
delete-early vs main us r h =
    let ks : List (List ℕ) = still_live vs us r in
    let ws : List Mutation = deletes_of main (length us) ks in
    let more : length (us ++ ws) ≡ length us + length ks = taken-more vs main us r in
    each-append (IsEarly main (length (us ++ ws))) us ws (early-less main (length us) (length (us ++ ws)) (omega (arith, more)) us h)
    (deletes-early main (length (us ++ ws)) (length us) ks (omega (arith, more)))

planned-early : (vs : List Version) (main : ℕ) (us : List Mutation) (q : Path) → AllByRecursion (IsEarly main (length us)) us
    → AllByRecursion (IsEarly main (length (planned vs main us q))) (planned vs main us q)
unfolding planned
planned-early vs main us Path.end h = h
planned-early vs main us (Path.range q rest) h = planned-early vs main us rest h
planned-early vs main us (Path.put p rest) h = planned-early vs main (us ++ put_change vs main (length us) p
    ∷ []) rest (put-early vs main us p h)
planned-early vs main us (Path.delete d rest) h = planned-early vs main (us ++ deletes_of main (length us) (still_live vs us d.range)) rest
    (delete-early vs main us d.range h)
planned-early vs main us (Path.txn b inner rest) h = planned-early vs main (planned vs main us inner) rest (planned-early vs main us inner
    h)

-- ---- what is read at the place before a change

early-by : (n k : ℕ) (u : Mutation) → IsEarly (n + 1) k u → rev_le u.rev (place_before (n + 1) k) ≡ true
early-by n zero u e = absurd (omega (arith, e.below))
early-by n (suc k) u e = rev_le-subs u.rev (record { main = n + 1; sub = k }) e.at (omega (arith, e.below))

late-behind : (n k : ℕ) (u : Mutation) → IsLate (n + 1) k u → rev_le u.rev (place_before (n + 1) k) ≡ false
late-behind n zero u e = rev_le-after u.rev (end_of (n + 1 - 1)) (omega (arith, e.at))
late-behind n (suc k) u e = rev_le-not u.rev (record { main = n + 1; sub = k }) e.at (omega (arith, e.from))

old-by : (vs : List Version) (n k : ℕ) → AreBy (end_of n) vs → AreBy (place_before (n + 1) k) vs
old-by vs n zero h = let e : n ≡ n + 1 - 1 = omega arith in subst (λ r. AreBy (end_of r) vs) e h
old-by vs n (suc k) h = each-map (λ v. rev_le v.rev (end_of n) ≡ true) (λ v. rev_le v.rev (record { main = n + 1; sub = k }) ≡ true)
    (λ v e. rev_le-before v.rev (record { main = n + 1; sub = k }) (omega (arith, rev_le-main v.rev (end_of n) e))) vs h

-- of changes in a row those before the place are seen, and no others
live-before-late : (vs : List Version) (n k : ℕ) (us ts : List Mutation) (r : KeyRange) → AreBy (end_of n) vs
    → AllByRecursion (IsEarly (n + 1) k) us → AllByRecursion (IsLate (n + 1) k) ts
    → live (extend_all vs (us ++ ts)) (place_before (n + 1) k) r ≡ live_now (extend_all vs us) r
live-before-late vs n k us ts r a e l =
    live-same (extend_all vs (us ++ ts)) seen p r (λ key. ap (λ xs. value_at xs p key) grows
    ∙ value_at-behind seen (added_by seen ts) p key behind) ∙ sym (live_now-by seen p r by)
  where
    p : Rev
    p = place_before (n + 1) k

    seen : List Version
    seen = extend_all vs us

    grows : extend_all vs (us ++ ts) ≡ seen ++ added_by seen ts
    grows = extend_all-append vs us ts ∙ extend_all-added seen ts

    behind : AreBehind p (added_by seen ts)
    behind = each-added (λ q _. rev_le q p ≡ false) seen ts (each-map (IsLate (n + 1) k) (λ u. rev_le u.rev p
        ≡ false) (late-behind n k) ts l)

    by : AreBy p seen
    by = subst (AreBy p) (sym (extend_all-added vs us)) (each-append (λ v. rev_le v.rev p ≡ true) vs (added_by vs us) (old-by vs n k a)
        (each-added (λ q _. rev_le q p ≡ true) vs us (each-map (IsEarly (n + 1) k) (λ u. rev_le u.rev p ≡ true) (early-by n k) us e)))

-- ---- the count

module _ (vs : List Version) (n : ℕ) (a : AreBy (end_of n) vs) (all : List Mutation) where
  -- the changes before a path, and those behind it
  behind-path : (us ts : List Mutation) (q : Path) → AreClear us (path_touches q) → NoClash q → all ≡ planned vs (n + 1) us q ++ ts
      → all ≡ us ++ (effect (extend_all vs us) (n + 1) (length us) q ++ ts)
  behind-path us ts q j c e = e ∙ ap (λ xs. xs ++ ts) (effect-planned vs (n + 1) us q j c)
      ∙ append_assoc us (effect (extend_all vs us) (n + 1) (length us) q) ts

  behind-late : (us ts : List Mutation) (q : Path) → AllByRecursion (IsLate (n + 1) (length (planned vs (n + 1) us q))) ts
      → AllByRecursion (IsLate (n + 1) (length us)) (effect (extend_all vs us) (n + 1) (length us) q ++ ts)
  behind-late us ts q l = each-append (IsLate (n + 1) (length us)) (effect (extend_all vs us) (n + 1) (length us) q) ts
      (effect-late (n + 1) (length us) (length us) (extend_all vs us) q (omega arith)) (late-more (n + 1) (length us)
      (length (planned vs (n + 1) us q)) (planned-length vs (n + 1) us q) ts l)

  -- a delete finds what it takes
  found : (us ts : List Mutation) (r : KeyRange) (touches : List Touch) → AreClear us (Touch.each r ∷ touches)
      → AllByRecursion (IsEarly (n + 1) (length us)) us
      → all ≡ us ++ ts → AllByRecursion (IsLate (n + 1) (length us)) ts
      → length (live (extend_all vs all) (place_before (n + 1) (length us)) r) ≡ length (still_live vs us r)
  found us ts r touches j h e l =
      ap (λ ms. length (live (extend_all vs ms) (place_before (n + 1) (length us)) r)) e
      ∙ ap length (live-before-late vs n (length us) us ts r a h l)
      ∙ sym (length-map (live_now (extend_all vs us) r) (λ (kv : KeyValue). kv.key))
      ∙ ap length (live-taken vs us r touches j)

  counted : (us ts : List Mutation) (q : Path) → AreClear us (path_touches q) → NoClash q → AllByRecursion (IsEarly (n + 1) (length us)) us
      → all ≡ planned vs (n + 1) us q ++ ts → AllByRecursion (IsLate (n + 1) (length (planned vs (n + 1) us q))) ts
      → length us + changes_of (extend_all vs all) (n + 1) (length us) q ≡ length (planned vs (n + 1) us q)
  unfolding planned changes_of
  counted us ts Path.end j c h e l = omega arith
  counted us ts (Path.range r rest) j c h e l = counted us ts rest j c h e l
  counted us ts (Path.put p rest) j c h e l =
      let m : Mutation = put_change vs (n + 1) (length us) p in
      let more : length (us ++ m ∷ []) ≡ suc (length us) = length-append us (m ∷ []) ∙ add-one (length us) in
      let later = counted (us ++ m ∷ []) ts rest (put-clear vs (n + 1) us p rest j c) c.1 (put-early vs (n + 1) us p h) e l in
      subst (λ k. length us + suc (changes_of (extend_all vs all) (n + 1) k rest) ≡ length (planned vs (n + 1) (us ++ m ∷ []) rest)) more
      (omega (arith, more, later))
  counted us ts (Path.delete d rest) j c h e l =
      let ks : List (List ℕ) = still_live vs us d.range in
      let ws : List Mutation = deletes_of (n + 1) (length us) ks in
      let more : length (us ++ ws) ≡ length us + length ks = taken-more vs (n + 1) us d.range in
      let later = counted (us ++ ws) ts rest (delete-clear vs (n + 1) us d rest j c) c.1 (delete-early vs (n + 1) us d.range h) e l in
      let takes : length (live (extend_all vs all) (place_before (n + 1) (length us)) d.range) ≡ length ks =
      found us (effect (extend_all vs us) (n + 1) (length us) (Path.delete d rest) ++ ts) d.range (path_touches rest) j h
      (behind-path us ts (Path.delete d rest) j c e) (behind-late us ts (Path.delete d rest) l) in
      subst (λ k. length us + (k + changes_of (extend_all vs all) (n + 1) (length us + k) rest)
      ≡ length (planned vs (n + 1) (us ++ ws) rest)) (sym takes)
      (subst (λ k. length us + (length ks + changes_of (extend_all vs all) (n + 1) k rest) ≡ length (planned vs (n + 1) (us ++ ws) rest))
      more (omega (arith, more, later)))
  counted us ts (Path.txn b inner rest) j c h e l =
      let mid : List Mutation = planned vs (n + 1) us inner in
      let clear : AreClear mid (path_touches rest) = inner-clear vs (n + 1) us b inner rest j c in
      let within = counted us (effect (extend_all vs mid) (n + 1) (length mid) rest
      ++ ts) inner (clear-front us (path_touches inner) (path_touches rest) j) c.1 h (behind-path mid ts rest clear c.2 e)
      (behind-late mid ts rest l) in
      let later = counted mid ts rest clear c.2 (planned-early vs (n + 1) us inner h) e l in
      subst (λ k. length us + (changes_of (extend_all vs all) (n + 1) (length us) inner + changes_of (extend_all vs all) (n + 1) k rest)
      ≡ length (planned vs (n + 1) mid rest)) (sym within) (omega (arith, within, later))

-- the changes of a path without a clash, counted in the versions that they leave
pub changes_counted : (vs : List Version) (n : ℕ) (q : Path) → AreBy (end_of n) vs → NoClash q
    → changes_of (extend_all vs (planned vs (n + 1) [] q)) (n + 1) 0 q ≡ length (planned vs (n + 1) [] q)
changes_counted vs n q a c = omega (
  arith,
  counted vs n a (planned vs (n + 1) [] q) [] [] q tt c tt (sym (append-nil (planned vs (n + 1) [] q))) tt,
)

-- a transaction makes the changes of its branch
pub branch_changes : (vs : List Version) (main sub : ℕ) (b : Bool) (inner : Path) → changes_of vs main sub (Path.txn b inner Path.end)
    ≡ changes_of vs main sub inner
unfolding changes_of
branch_changes vs main sub b inner = omega arith
