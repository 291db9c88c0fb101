-- The newest main revision goes, one version after another.
use Rattle.std.proofs.Common.{◌≡◌, ◌≤◌, ◌<◌, ◌+◌, ◌==◌, ℕ, List, [], ◌∷◌, ◌++◌, length, Bool, true, false, not, cond, filter, Option, None, Some}
use Rattle.std.proofs.Common.{refl, sym, ◌∙◌, ap, subst, arith}
use Rattle.std.proofs.lemmas.Bool.Decides.{nat_tests}
use Rattle.std.proofs.lemmas.List.{append-nil, length_push}
use Rattle.std.proofs.lemmas.List.Elements.{filter-append}
use Rattle.std.specs.List.{AllByRecursion}
use Rattle.kv_model.specs.declared.version.Version.{Version}
use Rattle.kv_model.specs.History.{is_at, without_rev}
use Rattle.store_laws.specs.Rising.{is_of}
use Rattle.store_laws.proofs.PlaceLaws.{each-map}
use Rattle.store_laws.proofs.Rising.{newest-cons, newest-none, rising-filter}
use Rattle.store_laws.proofs.StepLaws.{differs}
use Rattle.version_table.specs.Rising.{IsRising, is_newest, newest, retracted, rev_of}
use Rattle.version_table.proofs.Changes.{kept-others, without_rev-middle}
use Rattle.version_table.proofs.Rising.{up_to-newest}

-- ---- main revisions

-- no version is of a later main revision, or of this one
abbrev IsUpTo : ℕ → List Version → Type 0
IsUpTo main vs = AllByRecursion (λ v. v.rev.main ≤ main) vs

abbrev IsBelow : ℕ → List Version → Type 0
IsBelow main vs = AllByRecursion (λ v. v.rev.main < main) vs

abbrev pub others : ℕ → List Version → List Version
others main vs = filter (λ v. not (v.rev.main == main)) vs

pub below-not_of : (main : ℕ) (vs : List Version) → IsBelow main vs → AllByRecursion (λ v. (v.rev.main == main) ≡ false) vs
below-not_of main vs h =
    each-map (λ (v : Version). v.rev.main < main) (λ v. (v.rev.main == main) ≡ false) (λ v less. differs v.rev.main main less) vs h

smaller : (a b : ℕ) → a ≤ b → (a == b) ≡ false → a < b
smaller a b h e = grind (arith, nat_tests)

-- what rises up to a main revision, and does not end in it, is below it
pub upto-other : (main : ℕ) (vs : List Version) → IsRising vs → IsUpTo main vs → is_newest main vs ≡ false → IsBelow main vs
upto-other main vs r u h = by (newest vs) refl h
  where
    all-below : (l : Version) → newest vs ≡ Some l → l.rev.main < main → IsBelow main vs
    all-below l e less = each-map (λ (v : Version). v.rev.main ≤ l.rev.main) (λ v. v.rev.main < main) (λ v least. omega arith) vs
        (up_to-newest l.rev.main vs l r e (omega arith))

    last-upto : (ws : List Version) (l : Version) → newest ws ≡ Some l → IsUpTo main ws → l.rev.main ≤ main
    last-upto [] l e a = cc
    last-upto (w ∷ []) l e a = let same : w ≡ l = cc in subst (λ (x : Version). x.rev.main ≤ main) same a.0
    last-upto (w ∷ x ∷ ws) l e a = last-upto (x ∷ ws) l (newest-cons w x ws ∙ e) a.1

    by : (o : Option Version) → newest vs ≡ o → is_of rev_of main o ≡ false → IsBelow main vs
    by None e f = subst (IsBelow main) (sym (newest-none vs e)) tt
    by (Some l) e f = all-below l e (smaller l.rev.main main (last-upto vs l e u) f)

pub retracted-others : (main : ℕ) (vs : List Version) → IsRising vs → IsUpTo main vs → retracted main vs ≡ others main vs
retracted-others main vs r u = by (is_newest main vs) refl
  where
    by : (b : Bool) → is_newest main vs ≡ b → cond b (others main vs) vs ≡ others main vs
    by true e = refl
    by false e = sym (kept-others main vs (below-not_of main vs (upto-other main vs r u e)))

-- ---- the last version

record Ends (vs : List Version) (v : Version) : Type 0 where
  front : List Version
  split : vs ≡ front ++ v ∷ []

ends : (vs : List Version) (v : Version) → newest vs ≡ Some v → Ends vs v
ends [] v e = absurd (cc)
ends (u ∷ []) v e = let same : u ≡ v = cc in record { front = []; split = ap (λ w. w ∷ []) same }
ends (u ∷ w ∷ ws) v e =
    let rest : Ends (w ∷ ws) v = ends (w ∷ ws) v (newest-cons u w ws ∙ e) in
    record { front = u ∷ rest.front; split = ap (λ us. u ∷ us) rest.split }

-- it is taken out by its revision
last-split : (vs : List Version) (v : Version) → IsRising vs → newest vs ≡ Some v → vs ≡ without_rev (Some v.rev) vs ++ v ∷ []
last-split vs v r e =
    let n : Ends vs v = ends vs v e in
    let rising : IsRising (n.front ++ v ∷ []) = subst IsRising n.split r in
    let left : without_rev (Some v.rev) vs ≡ n.front =
    ap (without_rev (Some v.rev)) n.split ∙ without_rev-middle n.front v [] rising ∙ append-nil n.front in
    n.split ∙ ap (λ us. us ++ v ∷ []) (sym left)

each-front : {X : Type 0} (P : X → Type 0) (xs ys : List X) → AllByRecursion P (xs ++ ys) → AllByRecursion P xs
each-front P [] ys h = tt
each-front P (x ∷ xs) ys h = (h.0, each-front P xs ys h.1)

-- and the others of the main revision that it is of can still be taken back
pub last-retracted : (main : ℕ) (vs : List Version) (v : Version) → IsRising vs → newest vs ≡ Some v → v.rev.main ≡ main
    → retracted main (without_rev (Some v.rev) vs) ≡ retracted main vs
last-retracted main vs v r e same =
    let us : List Version = without_rev (Some v.rev) vs in
    let split : vs ≡ us ++ v ∷ [] = last-split vs v r e in
    let upto : IsUpTo main vs = up_to-newest main vs v r e (omega (arith, same)) in
    let of : (v.rev.main == main) ≡ true = grind (arith, nat_tests) in
    retracted-others main us (rising-filter rev_of (λ u. not (is_at v.rev u)) vs r)
    (each-front (λ (u : Version). u.rev.main ≤ main) us (v ∷ []) (subst (IsUpTo main) split upto))
    ∙ sym (
    ap (others main) split
    ∙ filter-append (λ (u : Version). not (u.rev.main == main)) us (v ∷ [])
    ∙ ap (λ b. others main us ++ cond (not b) (v ∷ []) []) of
    ∙ append-nil (others main us))
    ∙ sym (retracted-others main vs r upto)

pub last-fewer : (vs : List Version) (v : Version) → IsRising vs → newest vs ≡ Some v → length (without_rev (Some v.rev) vs) < length vs
last-fewer vs v r e =
    let us : List Version = without_rev (Some v.rev) vs in
    let one : length vs ≡ length us + 1 = ap length (last-split vs v r e) ∙ length_push us v in
    omega arith

-- none of the main revision is the last
pub none-retracted : (main : ℕ) (vs : List Version) → is_newest main vs ≡ false → vs ≡ retracted main vs
none-retracted main vs h = sym (ap (λ b. cond b (others main vs) vs) h)
