-- The newest main revision goes, from the versions and from their index.
use Rattle.std.proofs.Common.{◌≡◌, ◌≤◌, ◌<◌, ◌==◌, ℕ, List, [], ◌∷◌, ◌++◌, Bool, true, false, not, cond, filter}
use Rattle.std.proofs.Common.{refl, sym, ◌∙◌, ap, subst, arith, eq-eqb, ◌⊎◌, inl, inr}
use Rattle.std.specs.Prelude.{nat_le}
use Rattle.std.proofs.lemmas.Bool.{eqb-true}
use Rattle.std.proofs.lemmas.Bool.Decides.{nat_tests}
use Rattle.std.specs.List.{AllByRecursion}
use Rattle.kv_model.specs.declared.version.Rev.{Rev}
use Rattle.kv_model.specs.declared.version.Version.{Version}
use Rattle.kv_model.specs.History.{rev_lt}
use Rattle.store_laws.proofs.RevOrder.{below-cases, not-below-main, rev_lt-main}
use Rattle.store_laws.proofs.Rising.{rising-filter}
use Rattle.version_table.specs.Rising.{IsRising, retracted, rev_of}
use Rattle.version_table.proofs.Retracting.{others, retracted-others}
use Rattle.version_table.proofs.Rising.{IsAbove}
use Rattle.key_index.specs.Index.{Index}
use Rattle.key_index.specs.Index.{retracted as undone}
use Rattle.key_index.specs.Agrees.{Agrees}
use Rattle.key_index.proofs.Retracting.{retracted-agrees}
use Rattle.range_view.specs.Stored.{AreNotOf, AreOf, AreTied, IsBelow, IsUpTo}

-- ---- from a main revision on

abbrev pub first_of : ℕ → Rev
first_of next = record { main = next; sub = 0 }

pub from-main : (next : ℕ) (p : Rev) → not (rev_lt p (record { main = next; sub = 0 })) ≡ nat_le next p.main
from-main next p = by (rev_lt p (first_of next)) refl
  where
    less : (p.main < next) ⊎ ((p.main ≡ next) × (p.sub < 0)) → nat_le next p.main ≡ false
    less (inl h) = grind (arith, nat_tests)
    less (inr h) = absurd (omega arith)

    by : (b : Bool) → rev_lt p (first_of next) ≡ b → not b ≡ nat_le next p.main
    by true e = sym (less (below-cases p (first_of next) e))
    by false e =
        let h : next ≤ p.main = not-below-main p (first_of next) e in
        let g : nat_le next p.main ≡ true = grind (arith, nat_tests) in
        sym g

-- the versions from a main revision on
abbrev pub since : ℕ → List Version → List Version
since main vs = filter (λ v. not (rev_lt v.rev (first_of main))) vs

-- ---- the versions of a main revision, and the others

-- behind one of the main revision all are of it, up to it
of-rest : (main : ℕ) (p : Rev) (vs : List Version) → main ≤ p.main → IsAbove p vs → IsUpTo main vs → AreOf main vs
of-rest main p [] l a u = tt
of-rest main p (v ∷ vs) l a u =
    let more : p.main ≤ v.rev.main = rev_lt-main p v.rev a.0 in
    let least : v.rev.main ≤ main = u.0 in
    (eq-eqb v.rev.main main (omega arith), of-rest main p vs l a.1 u.1)

others-none : (main : ℕ) (vs : List Version) → AreOf main vs → others main vs ≡ []
others-none main [] h = refl
others-none main (v ∷ vs) h = ap (λ b. cond (not b) (v ∷ others main vs) (others main vs)) h.0 ∙ others-none main vs h.1

from-all : (main : ℕ) (vs : List Version) → AreOf main vs → since main vs ≡ vs
from-all main [] h = refl
from-all main (v ∷ vs) h =
    let same : v.rev.main ≡ main = eqb-true v.rev.main main h.0 in
    let here : nat_le main v.rev.main ≡ true = grind (arith, nat_tests) in
    ap (λ b. cond b (v ∷ since main vs) (since main vs)) (from-main main v.rev ∙ here) ∙ ap (λ us. v ∷ us) (from-all main vs h.1)

others-not_of : (main : ℕ) (vs : List Version) → AreNotOf main (others main vs)
others-not_of main [] = tt
others-not_of main (v ∷ vs) = by (v.rev.main == main) refl (others-not_of main vs)
  where
    by : (b : Bool) → (v.rev.main == main) ≡ b → AreNotOf main (others main vs)
        → AreNotOf main (cond (not b) (v ∷ others main vs) (others main vs))
    by true e rest = rest
    by false e rest = (e, rest)

-- what a walk from the main revision on shows, and what it has passed
record Split (main : ℕ) (vs : List Version) : Type 0 where
  whole : vs ≡ others main vs ++ since main vs
  of : AreOf main (since main vs)

parted : (main : ℕ) (vs : List Version) → IsRising vs → IsUpTo main vs → Split main vs
parted main [] r u = record { whole = refl; of = tt }
parted main (v ∷ vs) r u = by (v.rev.main == main) refl (parted main vs r.1 u.1)
  where
    less : (a b : ℕ) → a ≤ b → (a == b) ≡ false → nat_le b a ≡ false
    less a b l e = grind (arith, nat_tests)

    by : (b : Bool) → (v.rev.main == main) ≡ b → Split main vs → Split main (v ∷ vs)
    by true e rest =
        let same : v.rev.main ≡ main = eqb-true v.rev.main main e in
        let all : AreOf main (v ∷ vs) = (e, of-rest main v.rev vs (omega arith) r.0 u.1) in
        record {
          whole = sym (ap (λ us. us ++ since main (v ∷ vs)) (others-none main (v ∷ vs) all) ∙ from-all main (v ∷ vs) all);
          of = subst (AreOf main) (sym (from-all main (v ∷ vs) all)) all;
        }
    by false e rest =
        let past : not (rev_lt v.rev (first_of main)) ≡ false = from-main main v.rev ∙ less v.rev.main main u.0 e in
        let none : since main (v ∷ vs) ≡ since main vs = ap (λ b. cond b (v ∷ since main vs) (since main vs)) past in
        let other : others main (v ∷ vs) ≡ v ∷ others main vs = ap (λ b. cond (not b) (v ∷ others main vs) (others main vs)) e in
        record {
          whole = ap (λ us. v ∷ us) rest.whole ∙ sym (λ i. other i ++ none i);
          of = subst (AreOf main) (sym none) rest.of;
        }

-- ---- what is left

-- the index is that of the other versions
pub unindexed : (main : ℕ) (vs : List Version) (i : Index) → AreTied i vs → IsUpTo main vs
    → Agrees (undone main (since main vs) i) (retracted main vs)
unindexed main vs i t u =
    let s = parted main vs t.rising u in
    subst (Agrees (undone main (since main vs) i)) (sym (retracted-others main vs t.rising u))
    (retracted-agrees main (others main vs) (since main vs) i (subst (Agrees i) s.whole t.agrees) (others-not_of main vs) s.of)

others-below : (main : ℕ) (vs : List Version) → IsUpTo main vs → IsBelow main (others main vs)
others-below main [] u = tt
others-below main (v ∷ vs) u = by (v.rev.main == main) refl (others-below main vs u.1)
  where
    less : (a b : ℕ) → a ≤ b → (a == b) ≡ false → a < b
    less a b l e = grind (arith, nat_tests)

    by : (b : Bool) → (v.rev.main == main) ≡ b → IsBelow main (others main vs)
        → IsBelow main (cond (not b) (v ∷ others main vs) (others main vs))
    by true e rest = rest
    by false e rest = (less v.rev.main main u.0 e, rest)

pub retracted-below : (main : ℕ) (vs : List Version) → IsRising vs → IsUpTo main vs → IsBelow main (retracted main vs)
retracted-below main vs r u = subst (IsBelow main) (sym (retracted-others main vs r u)) (others-below main vs u)

pub retracted-rising : (main : ℕ) (vs : List Version) → IsRising vs → IsUpTo main vs → IsRising (retracted main vs)
retracted-rising main vs r u =
    subst IsRising (sym (retracted-others main vs r u)) (rising-filter rev_of (λ v. not (v.rev.main == main)) vs r)
