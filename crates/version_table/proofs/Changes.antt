-- What the changes of a rising list undo, and that a version is found by its revision.
use Rattle.std.proofs.Common.{◌≡◌, ℕ, List, [], ◌∷◌, ◌++◌, Bool, true, false, not, ◌&&◌}
use Rattle.std.proofs.Common.{◌==◌, cond, Option, None, Some, filter, refl, ◌∙◌, ap, subst}
use Rattle.std.proofs.lemmas.List.{append-nil}
use Rattle.std.specs.Option.{option_or}
use Rattle.std.specs.List.{AllByRecursion, find}
use Rattle.kv_model.specs.declared.version.Rev.{Rev}
use Rattle.kv_model.specs.declared.version.Version.{Version}
use Rattle.kv_model.specs.Keys.{same_key}
use Rattle.kv_model.specs.History.{rev_lt, rev_le, latest, is_at, without_rev}
use Rattle.store_laws.specs.Rising.{is_of}
use Rattle.store_laws.proofs.PlaceLaws.{each-map}
use Rattle.store_laws.proofs.RevOrder.{is_rev-self, is_rev-before}
use Rattle.store_laws.proofs.Rising.{kept-all, others-middle, rising-parts}
use Rattle.version_table.specs.Rising.{IsRising, newest, rev_of, is_newest, retracted}
use Rattle.version_table.proofs.Rising.{IsAbove}

-- ---- a version is found by its revision

above-latest : (q p : Rev) (k : List ℕ) (vs : List Version) (v : Version) → IsAbove q vs → latest vs p k ≡ Some v → rev_lt q v.rev ≡ true
above-latest q p k [] v a e = cc
above-latest q p k (w ∷ ws) v a e = by (latest ws p k) refl (same_key w.key k && rev_le w.rev p) e (λ h. above-latest q p k ws v a.1 h)
  where
    by : (o : Option Version) → latest ws p k ≡ o → (b : Bool) → option_or o (cond b (Some w) None) ≡ Some v
        → (latest ws p k ≡ Some v → rev_lt q v.rev ≡ true) → rev_lt q v.rev ≡ true
    by (Some u) f b g rest = rest (f ∙ g)
    by None f true g rest = let same : w ≡ v = cc in subst (λ u. rev_lt q u.rev ≡ true) same a.0
    by None f false g rest = cc

-- the last version of a key at a place is the one that stands at its revision
pub find-latest : (vs : List Version) → IsRising vs → (p : Rev) (k : List ℕ) (v : Version) → latest vs p k ≡ Some v
    → find (is_at v.rev) vs ≡ Some v
find-latest [] r p k v e = cc
find-latest (w ∷ ws) r p k v e = by (latest ws p k) refl (same_key w.key k && rev_le w.rev p) e (λ h. find-latest ws r.1 p k v h)
  where
    by : (o : Option Version) → latest ws p k ≡ o → (b : Bool) → option_or o (cond b (Some w) None) ≡ Some v
        → (latest ws p k ≡ Some v → find (is_at v.rev) ws ≡ Some v)
        → cond (is_at v.rev w) (Some w) (find (is_at v.rev) ws) ≡ Some v
    by (Some u) f b g more =
        let rest : latest ws p k ≡ Some v = f ∙ g in
        ap (λ b. cond b (Some w) (find (is_at v.rev) ws)) (is_rev-before v.rev w.rev (above-latest w.rev p k ws v r.0 rest)) ∙ more rest
    by None f true g more =
        let same : w ≡ v = cc in
        ap (λ b. cond b (Some w) (find (is_at v.rev) ws)) (ap (λ u. is_at v.rev u) same ∙ is_rev-self v.rev) ∙ ap Some same
    by None f false g more = cc

-- ---- a version taken out by its revision

pub without_rev-middle : (xs : List Version) (v : Version) (ys : List Version) → IsRising (xs ++ v ∷ ys)
    → without_rev (Some v.rev) (xs ++ v ∷ ys) ≡ xs ++ ys
without_rev-middle xs v ys r = let parts = rising-parts rev_of xs v ys r in others-middle rev_of xs v ys parts.0 parts.1

-- ---- a main revision taken back

pub kept-others : (main : ℕ) (vs : List Version) → AllByRecursion (λ v. (v.rev.main == main) ≡ false) vs
    → filter (λ v. not (v.rev.main == main)) vs ≡ vs
kept-others main vs h =
    kept-all (λ v. not (v.rev.main == main)) vs
    (each-map (λ (v : Version). (v.rev.main == main) ≡ false) (λ v. not (v.rev.main == main) ≡ true) (λ v e. ap not e) vs h)

kept-append : (main : ℕ) (vs us : List Version) → AllByRecursion (λ v. (v.rev.main == main) ≡ false) vs
    → AllByRecursion (λ u. (u.rev.main == main) ≡ true) us
    → filter (λ v. not (v.rev.main == main)) (vs ++ us) ≡ vs
kept-append main [] [] h g = refl
kept-append main [] (u ∷ us) h g =
    ap (λ b. cond (not b) (u ∷ filter (λ w. not (w.rev.main == main)) us) (filter (λ w. not (w.rev.main == main)) us)) g.0
    ∙ kept-append main [] us h g.1
kept-append main (v ∷ vs) us h g =
    ap (λ b. cond (not b) (v ∷ filter (λ w. not (w.rev.main == main)) (vs ++ us)) (filter (λ w. not (w.rev.main == main)) (vs ++ us))) h.0
    ∙ ap (λ ws. v ∷ ws) (kept-append main vs us h.1 g)

-- the last of some changes is one of them
newest-of : (main : ℕ) (vs : List Version) (u : Version) (us : List Version) → AllByRecursion (λ w. (w.rev.main == main) ≡ true) (u ∷ us)
    → is_newest main (vs ++ u ∷ us) ≡ true
newest-of main [] u [] g = g.0
newest-of main [] u (w ∷ us) g = by (newest us) (newest-of main [] w us g.1)
  where
    by : (o : Option Version) → is_of rev_of main (option_or o (Some w)) ≡ true
        → is_of rev_of main (option_or (option_or o (Some w)) (Some u)) ≡ true
    by None e = e
    by (Some x) e = e
newest-of main (v ∷ vs) u us g = by (newest (vs ++ u ∷ us)) (newest-of main vs u us g)
  where
    by : (o : Option Version) → is_of rev_of main o ≡ true → is_of rev_of main (option_or o (Some v)) ≡ true
    by None e = cc
    by (Some x) e = e

-- the changes of the newest main revision go, and what was before them stays
pub retracted-append : (main : ℕ) (vs us : List Version) → AllByRecursion (λ v. (v.rev.main == main) ≡ false) vs
    → AllByRecursion (λ u. (u.rev.main == main) ≡ true) us
    → retracted main (vs ++ us) ≡ vs
retracted-append main vs [] h g = ap (retracted main) (append-nil vs) ∙ by (is_newest main vs)
  where
    by : (b : Bool) → cond b (filter (λ v. not (v.rev.main == main)) vs) vs ≡ vs
    by true = kept-others main vs h
    by false = refl
retracted-append main vs (u ∷ us) h g =
    ap (λ b. cond b (filter (λ v. not (v.rev.main == main)) (vs ++ u ∷ us)) (vs ++ u ∷ us)) (newest-of main vs u us g)
    ∙ kept-append main vs (u ∷ us) h g
