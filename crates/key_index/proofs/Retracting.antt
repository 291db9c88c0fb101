-- A main revision goes from an index as from the versions that it is of.
use Rattle.std.proofs.Common.{◌≡◌, ◌≤◌, ◌<◌, ◌==◌, ℕ, List, [], ◌∷◌, ◌++◌, Bool, true, false, not, cond, sym, ◌∙◌, ap, subst, arith}
use Rattle.std.proofs.lemmas.Bool.{eqb-true}
use Rattle.std.proofs.lemmas.List.{append-nil}
use Rattle.std.specs.List.{AllByRecursion}
use Rattle.kv_model.specs.declared.version.Rev.{Rev}
use Rattle.kv_model.specs.declared.version.Version.{Version}
use Rattle.kv_model.specs.Lists.{is_empty}
use Rattle.store_laws.proofs.PlaceLaws.{each-append, each-map}
use Rattle.store_laws.proofs.StepLaws.{differs}
use Rattle.key_index.specs.Agrees.{Agrees, IsBelow, AreOf, revisions_of}
use Rattle.key_index.specs.KeyRevisions.{AreUpTo, undone}
use Rattle.key_index.specs.Index.{Index, IsBound, IsIndex, is_up_to, retracted, retracted_newest, undone_at}
use Rattle.key_index.proofs.Agrees.{each-revision, revisions_of-append}
use Rattle.key_index.proofs.Bounds.{bound-changed, bound-up_to, taken_back, up_to-undone}
use Rattle.key_index.proofs.Entries.{changes_key, index-retracted, revisions-retracted}
use Rattle.key_index.proofs.KeyRevisions.{undone-append}
use Rattle.key_index.proofs.Walks.{AreTheirs, has-versions, theirs}

-- ---- some changes, and then others

pub retracted-append : (main : ℕ) (xs ys : List Version) (i : Index) → retracted main (xs ++ ys) i ≡ retracted main ys (retracted main xs i)
retracted-append main [] ys i = λ _. retracted main ys i
retracted-append main (x ∷ xs) ys i = retracted-append main xs ys (undone_at main x.key i)

pub bound-retracted : (n main : ℕ) (cs : List Version) (i : Index) → IsIndex i × IsBound n i
    → IsIndex (retracted main cs i) × IsBound n (retracted main cs i)
bound-retracted n main [] i h = h
bound-retracted n main (c ∷ cs) i h =
    bound-retracted n main cs (undone_at main c.key i) (bound-changed (undone main) n (up_to-undone n main) c.key i h)

-- ---- the newest main revision

-- the index of versions up to a main revision has no later one
pub agrees-bound : (main : ℕ) (vs : List Version) (i : Index) → Agrees i vs → AllByRecursion (λ v. v.rev.main ≤ main) vs → IsBound main i
agrees-bound main vs i a h = go i (theirs i a.sound)
  where
    go : (es : Index) → AreTheirs i es → IsBound main es
    go [] t = tt
    go (e ∷ es) t = (subst (AreUpTo main) (sym (a.each e.0) ∙ t.0) (each-revision (λ q. q.main ≤ main) e.0 vs h), go es t.1)

pub newest-retracted : (main : ℕ) (cs : List Version) (i : Index) → IsBound main i → retracted_newest main cs i ≡ retracted main cs i
newest-retracted main cs i h = taken_back main cs i (bound-up_to main main i (omega arith) h)

pub other-retracted : (main : ℕ) (cs : List Version) (i : Index) → is_up_to main i ≡ false → i ≡ retracted_newest main cs i
other-retracted main cs i h = sym (ap (λ b. cond b (retracted main cs i) i) h)

-- ---- all of a main revision

-- a key without a change has no revision among them
no-change : (k : List ℕ) (cs : List Version) → changes_key k cs ≡ false → revisions_of k cs ≡ []
no-change k cs e = by (revisions_of k cs) (sym (has-versions k cs) ∙ e)
  where
    by : (qs : List Rev) → not (is_empty qs) ≡ false → qs ≡ []
    by [] f = λ _. []
    by (q ∷ qs) f = cc

-- the index is then that of the other versions
pub retracted-agrees : (main : ℕ) (vs cs : List Version) (i : Index) → Agrees i (vs ++ cs)
    → AllByRecursion (λ v. (v.rev.main == main) ≡ false) vs → AreOf main cs → Agrees (retracted main cs i) vs
retracted-agrees main vs cs i a h g = record {
  sound = index-retracted main cs i a.sound;
  each = λ k. revisions-retracted main cs i a.sound k
      ∙ ap (λ qs. cond (changes_key k cs) (undone main qs) qs) (a.each k ∙ revisions_of-append k vs cs)
      ∙ by k (changes_key k cs) (λ _. changes_key k cs);
}
  where
    by : (k : List ℕ) (b : Bool) → changes_key k cs ≡ b
        → cond b (undone main (revisions_of k vs ++ revisions_of k cs)) (revisions_of k vs ++ revisions_of k cs) ≡ revisions_of k vs
    by k true e =
        undone-append main (revisions_of k vs) (revisions_of k cs)
        (each-revision (λ q. (q.main == main) ≡ false) k vs h) (each-revision (λ q. (q.main == main) ≡ true) k cs g)
    by k false e = ap (λ qs. revisions_of k vs ++ qs) (no-change k cs e) ∙ append-nil (revisions_of k vs)

pub whole-agrees : (main : ℕ) (vs cs : List Version) (i : Index) → IsBelow main vs → AreOf main cs → Agrees i (vs ++ cs)
    → Agrees (retracted_newest main cs i) vs
whole-agrees main vs cs i h g a =
    let upto : AllByRecursion (λ (v : Version). v.rev.main ≤ main) (vs ++ cs) =
    each-append (λ (v : Version). v.rev.main ≤ main) vs cs
    (each-map (λ (v : Version). v.rev.main < main) (λ v. v.rev.main ≤ main) (λ v less. omega arith) vs h)
    (each-map (λ (v : Version). (v.rev.main == main) ≡ true) (λ v. v.rev.main ≤ main)
    (λ v same. let e = eqb-true v.rev.main main same in omega arith) cs g) in
    let other = each-map (λ (v : Version). v.rev.main < main) (λ v. (v.rev.main == main) ≡ false) (λ v less. differs v.rev.main main less) vs h in
    subst (λ j. Agrees j vs) (sym (newest-retracted main cs i (agrees-bound main (vs ++ cs) i a upto))) (retracted-agrees main vs cs i a other g)
