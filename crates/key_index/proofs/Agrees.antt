-- An index agrees with its versions as both change.
use Rattle.std.proofs.Common.{◌≡◌, ℕ, List, [], ◌∷◌, ◌++◌, map, filter, Bool, true, false, cond}
use Rattle.std.proofs.Common.{refl, sym, ◌∙◌, ap, subst}
use Rattle.std.proofs.lemmas.List.{append-nil}
use Rattle.std.specs.List.{AllByRecursion}
use Rattle.kv_model.specs.declared.version.Rev.{Rev}
use Rattle.kv_model.specs.declared.version.Version.{Version}
use Rattle.kv_model.specs.Keys.{same_key}
use Rattle.kv_model.specs.History.{rev_lt}
use Rattle.store_laws.proofs.Rising.{others-middle}
use Rattle.key_index.specs.KeyRevisions.{IsBehind, without}
use Rattle.key_index.specs.Index.{Index, revisions, with_revision, without_revision}
use Rattle.key_index.specs.Agrees.{revisions_of, Agrees}
use Rattle.key_index.proofs.Entries.{index-with_revision, index-with_revisions}
use Rattle.key_index.proofs.Entries.{revisions-with_revision, revisions-changed}

-- ---- the revisions of a list of versions

pub revisions_of-append : (k : List ℕ) (xs ys : List Version) → revisions_of k (xs ++ ys) ≡ revisions_of k xs ++ revisions_of k ys
revisions_of-append k [] ys = refl
revisions_of-append k (x ∷ xs) ys = by (same_key x.key k) (revisions_of-append k xs ys)
  where
    here : List Version → List Version
    here vs = filter (λ (v : Version). same_key v.key k) vs

    by : (b : Bool) → revisions_of k (xs ++ ys) ≡ revisions_of k xs ++ revisions_of k ys
        → map (λ (v : Version). v.rev) (cond b (x ∷ here (xs ++ ys)) (here (xs ++ ys)))
        ≡ map (λ (v : Version). v.rev) (cond b (x ∷ here xs) (here xs)) ++ revisions_of k ys
    by true rest = ap (λ qs. x.rev ∷ qs) rest
    by false rest = rest

pub revisions_of-cons : (k : List ℕ) (v : Version) (vs : List Version)
    → revisions_of k (v ∷ vs) ≡ cond (same_key v.key k) (v.rev ∷ revisions_of k vs) (revisions_of k vs)
revisions_of-cons k v vs = by (same_key v.key k)
  where
    here : List Version
    here = filter (λ (w : Version). same_key w.key k) vs

    by : (b : Bool) → map (λ (w : Version). w.rev) (cond b (v ∷ here) here) ≡ cond b (v.rev ∷ revisions_of k vs) (revisions_of k vs)
    by true = refl
    by false = refl

pub revisions_of-push : (k : List ℕ) (vs : List Version) (v : Version)
    → revisions_of k (vs ++ v ∷ []) ≡ cond (same_key v.key k) (revisions_of k vs ++ v.rev ∷ []) (revisions_of k vs)
revisions_of-push k vs v =
    revisions_of-append k vs (v ∷ []) ∙ ap (λ qs. revisions_of k vs ++ qs) (revisions_of-cons k v []) ∙ by (same_key v.key k)
  where
    by : (b : Bool) → revisions_of k vs ++ cond b (v.rev ∷ []) [] ≡ cond b (revisions_of k vs ++ v.rev ∷ []) (revisions_of k vs)
    by true = refl
    by false = append-nil (revisions_of k vs)

-- what holds of each version's revision holds of those of a key
pub each-revision : (P : Rev → Type 0) (k : List ℕ) (vs : List Version) → AllByRecursion (λ v. P v.rev) vs
    → AllByRecursion P (revisions_of k vs)
each-revision P k [] h = tt
each-revision P k (v ∷ vs) h = subst (AllByRecursion P) (sym (revisions_of-cons k v vs)) (by (same_key v.key k) (each-revision P k vs h.1))
  where
    by : (b : Bool) → AllByRecursion P (revisions_of k vs) → AllByRecursion P (cond b (v.rev ∷ revisions_of k vs) (revisions_of k vs))
    by true rest = (h.0, rest)
    by false rest = rest

-- ---- growth

pub agrees-nothing : Agrees [] []
agrees-nothing = record { sound = tt; each = λ k. refl }

-- a revision behind every version may be put or gone
pub behind-agrees : (i : Index) (vs : List Version) (p : Rev) (k : List ℕ) → Agrees i vs
    → AllByRecursion (λ v. rev_lt v.rev p ≡ true) vs → IsBehind p (revisions k i)
behind-agrees i vs p k a h = subst (IsBehind p) (sym (a.each k)) (each-revision (λ q. rev_lt q p ≡ true) k vs h)

-- the index takes the revision of a version that the list takes at its end
pub push-agrees : (i : Index) (vs : List Version) (v : Version) → Agrees i vs → Agrees (with_revision v.key v.rev i) (vs ++ v ∷ [])
push-agrees i vs v a = record {
  sound = index-with_revision v.key v.rev i a.sound;
  each = λ k. revisions-with_revision v.key v.rev i k
      ∙ ap (λ qs. cond (same_key v.key k) (qs ++ v.rev ∷ []) qs) (a.each k)
      ∙ sym (revisions_of-push k vs v);
}

-- ---- a version goes

-- from wherever it stands
pub remove-agrees : (i : Index) (xs : List Version) (v : Version) (ys : List Version) → Agrees i (xs ++ v ∷ ys)
    → AllByRecursion (λ u. rev_lt u.rev v.rev ≡ true) xs → AllByRecursion (λ u. rev_lt v.rev u.rev ≡ true) ys
    → Agrees (without_revision v.key v.rev i) (xs ++ ys)
remove-agrees i xs v ys a h g = record {
  sound = index-with_revisions v.key (without v.rev (revisions v.key i)) i a.sound;
  each = λ k. revisions-changed (without v.rev) refl v.key i a.sound k
      ∙ ap (λ qs. cond (same_key v.key k) (without v.rev qs) qs)
      (a.each k ∙ revisions_of-append k xs (v ∷ ys) ∙ ap (λ qs. revisions_of k xs ++ qs) (revisions_of-cons k v ys))
      ∙ by k (same_key v.key k)
      ∙ sym (revisions_of-append k xs ys);
}
  where
    parted : (k : List ℕ) → Bool → List Rev
    parted k b = revisions_of k xs ++ cond b (v.rev ∷ revisions_of k ys) (revisions_of k ys)

    by : (k : List ℕ) (b : Bool) → cond b (without v.rev (parted k b)) (parted k b) ≡ revisions_of k xs ++ revisions_of k ys
    by k true =
        others-middle (λ q. q) (revisions_of k xs) v.rev (revisions_of k ys)
        (each-revision (λ q. rev_lt q v.rev ≡ true) k xs h) (each-revision (λ q. rev_lt v.rev q ≡ true) k ys g)
    by k false = refl
