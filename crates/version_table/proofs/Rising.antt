-- Rising lists of versions: what stands at a place, and how the list changes.
use Rattle.std.proofs.Common.{◌≡◌, ℕ, zero, suc, ◌≤◌, List, [], ◌∷◌, Bool, true, false, not, cond}
use Rattle.std.proofs.Common.{Option, None, Some, filter, refl, sym, ◌∙◌, ap, subst, arith}
use Rattle.std.specs.List.{AllByRecursion, find, slice_get, remove}
use Rattle.kv_model.specs.declared.version.Rev.{Rev}
use Rattle.kv_model.specs.declared.version.Version.{Version}
use Rattle.kv_model.specs.History.{rev_lt, is_at}
use Rattle.store_laws.proofs.PlaceLaws.{each-map}
use Rattle.store_laws.proofs.RevOrder.{rev_lt-main, rev_lt-not, is_rev-same, is_rev-before, is_rev-behind}
use Rattle.store_laws.proofs.Rising as rising
use Rattle.version_table.specs.Rising.{IsBehind, IsRising, count_before, newest, rev_of}

abbrev pub IsAbove : Rev → List Version → Type 0
IsAbove p vs = rising.IsAbove rev_of p vs

-- ---- what stands at a place

pub above-not : (p : Rev) (v : Version) (vs : List Version) → rev_lt v.rev p ≡ false → IsAbove v.rev vs → IsAbove p vs
above-not p v vs h = each-map (λ w. rev_lt v.rev w.rev ≡ true) (λ w. rev_lt p w.rev ≡ true) (λ w a. rev_lt-not p v.rev w.rev h a) vs

pub none-above : (p : Rev) (vs : List Version) → IsAbove p vs → find (is_at p) vs ≡ None
none-above p [] a = refl
none-above p (v ∷ vs) a = ap (λ b. cond b (Some v) (find (is_at p) vs)) (is_rev-behind p v.rev a.0) ∙ none-above p vs a.1

-- the version, where it is at the place
abbrev pub held : Rev → Option Version → Option Version
held p None = None
held p (Some v) = cond (is_at p v) (Some v) None

-- the versions without the one at an index, where it is at the place
abbrev pub left : Rev → List Version → ℕ → Option Version → List Version
left p vs n None = vs
left p vs n (Some v) = cond (is_at p v) (remove vs n) vs

find-count_before : (p : Rev) (vs : List Version) → IsRising vs → find (is_at p) vs ≡ held p (slice_get vs (count_before p vs))
find-count_before p [] r = refl
find-count_before p (v ∷ vs) r = by (rev_lt v.rev p) refl (find-count_before p vs r.1)
  where
    by : (b : Bool) → rev_lt v.rev p ≡ b → find (is_at p) vs ≡ held p (slice_get vs (count_before p vs))
        → cond (is_at p v) (Some v) (find (is_at p) vs) ≡ held p (slice_get (v ∷ vs) (cond b (suc (count_before p vs)) zero))
    by true e rest = ap (λ b. cond b (Some v) (find (is_at p) vs)) (is_rev-before p v.rev e) ∙ rest
    by false e rest = ap (λ o. cond (is_at p v) (Some v) o) (none-above p vs (above-not p v vs e r.0))

above-get : (p : Rev) (vs : List Version) (i : ℕ) (v : Version) → IsAbove p vs → slice_get vs i ≡ Some v → rev_lt p v.rev ≡ true
above-get p [] i v a e = cc
above-get p (w ∷ ws) zero v a e = let same : w ≡ v = cc in subst (λ u. rev_lt p u.rev ≡ true) same a.0
above-get p (w ∷ ws) (suc i) v a e = above-get p ws i v a.1 e

-- a version at the revision is the one that is found, since no other is
pub find-at : (p : Rev) (vs : List Version) (i : ℕ) (v : Version) → IsRising vs → slice_get vs i ≡ Some v → is_at p v ≡ true
    → find (is_at p) vs ≡ Some v
find-at p [] i v r e h = cc
find-at p (w ∷ ws) zero v r e h = let same : w ≡ v = cc in ap (λ b. cond b (Some w) (find (is_at p) ws)) (ap (is_at p) same ∙ h)
    ∙ ap Some same
find-at p (w ∷ ws) (suc i) v r e h =
    let before : rev_lt w.rev p ≡ true =
    subst (λ (q : Rev). rev_lt w.rev q ≡ true) (is_rev-same p v.rev h) (above-get w.rev ws i v r.0 e) in
    ap (λ b. cond b (Some w) (find (is_at p) ws)) (is_rev-before p w.rev before)
    ∙ find-at p ws i v r.1 e h

left-cons : (p : Rev) (v : Version) (vs : List Version) (n : ℕ) (o : Option Version) → v ∷ left p vs n o ≡ left p (v ∷ vs) (suc n) o
left-cons p v vs n None = refl
left-cons p v vs n (Some u) = by (is_at p u)
  where
    by : (b : Bool) → v ∷ cond b (remove vs n) vs ≡ cond b (v ∷ remove vs n) (v ∷ vs)
    by true = refl
    by false = refl

without-count_before : (p : Rev) (vs : List Version) → IsRising vs
    → filter (λ v. not (is_at p v)) vs ≡ left p vs (count_before p vs) (slice_get vs (count_before p vs))
without-count_before p [] r = refl
without-count_before p (v ∷ vs) r = by (rev_lt v.rev p) refl (without-count_before p vs r.1)
  where
    rest_of : List Version
    rest_of = filter (λ w. not (is_at p w)) vs

    first : (b : Bool) → cond (not b) (v ∷ vs) vs ≡ cond b vs (v ∷ vs)
    first true = refl
    first false = refl

    by : (b : Bool) → rev_lt v.rev p ≡ b → rest_of ≡ left p vs (count_before p vs) (slice_get vs (count_before p vs))
        → cond (not (is_at p v)) (v ∷ rest_of) rest_of ≡ left p (v ∷ vs) (cond b (suc (count_before p vs)) zero)
        (slice_get (v ∷ vs) (cond b (suc (count_before p vs)) zero))
    by true e rest = ap (λ b. cond (not b) (v ∷ rest_of) rest_of) (is_rev-before p v.rev e) ∙ ap (λ ws. v ∷ ws) rest
        ∙ left-cons p v vs (count_before p vs) (slice_get vs (count_before p vs))
    by false e rest =
        ap (λ ws. cond (not (is_at p v)) (v ∷ ws) ws) (rising.others-above rev_of p vs (above-not p v vs e r.0)) ∙ first (is_at p v)

module _ (p : Rev) (vs : List Version) (n : ℕ) (r : IsRising vs) (at : n ≡ count_before p vs) where
  abbrev without : List Version
  without = filter (λ v. not (is_at p v)) vs

  held_is : (o : Option Version) → slice_get vs n ≡ o → (find (is_at p) vs ≡ held p o) × (without ≡ left p vs n o)
  held_is o e = (
    find-count_before p vs r ∙ ap (λ k. held p (slice_get vs k)) (sym at) ∙ ap (held p) e,
    without-count_before p vs r ∙ ap (λ k. left p vs k (slice_get vs k)) (sym at) ∙ ap (left p vs n) e,
  )

  -- the version before which no other stands is at the place
  pub found : (v : Version) → slice_get vs n ≡ Some v → is_at p v ≡ true → (find (is_at p) vs ≡ slice_get vs n) × (without ≡ remove vs n)
  found v e h =
      let k = held_is (Some v) e in
      (k.0 ∙ ap (λ b. cond b (Some v) None) h ∙ sym e, k.1 ∙ ap (λ b. cond b (remove vs n) vs) h)

  -- it is not
  pub missed : (v : Version) → slice_get vs n ≡ Some v → is_at p v ≡ false → (find (is_at p) vs ≡ None) × (without ≡ vs)
  missed v e h =
      let k = held_is (Some v) e in
      (k.0 ∙ ap (λ b. cond b (Some v) None) h, k.1 ∙ ap (λ b. cond b (remove vs n) vs) h)

  -- all are before the place
  pub past : slice_get vs n ≡ None → (find (is_at p) vs ≡ None) × (without ≡ vs)
  past e = held_is None e

-- ---- the newest version is of the last main revision

abbrev AllUpTo : ℕ → List Version → Type 0
AllUpTo main vs = AllByRecursion (λ v. v.rev.main ≤ main) vs

pub up_to-newest : (main : ℕ) (vs : List Version) (l : Version) → IsRising vs → newest vs ≡ Some l → l.rev.main ≤ main → AllUpTo main vs
up_to-newest main [] l r e h = tt
up_to-newest main (v ∷ []) l r e h = (let same : v ≡ l = cc in subst (λ u. u.rev.main ≤ main) (sym same) h, tt)
up_to-newest main (v ∷ w ∷ ws) l r e h =
    let rest : AllUpTo main (w ∷ ws) = up_to-newest main (w ∷ ws) l r.1 (rising.newest-cons v w ws ∙ e) h in
    let least : v.rev.main ≤ w.rev.main = rev_lt-main v.rev w.rev r.0.0 in
    let next : w.rev.main ≤ main = rest.0 in
    (omega arith, rest)

-- ---- no version from a place on

pub behind-none_from : (p : Rev) (vs : List Version) → find (λ v. not (rev_lt v.rev p)) vs ≡ None → IsBehind p vs
behind-none_from p [] e = tt
behind-none_from p (v ∷ vs) e = by (rev_lt v.rev p) refl e (behind-none_from p vs)
  where
    by : (b : Bool) → rev_lt v.rev p ≡ b → cond (not b) (Some v) (find (λ w. not (rev_lt w.rev p)) vs) ≡ None
        → (find (λ w. not (rev_lt w.rev p)) vs ≡ None → IsBehind p vs) → IsBehind p (v ∷ vs)
    by true f g rest = (f, rest g)
    by false f g rest = cc
