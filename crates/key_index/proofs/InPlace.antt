-- What is done with a key's revisions in their place in the map, as the index has it.
use Rattle.std.proofs.Common.{◌≡◌, ◌≢◌, ℕ, List, [], ◌∷◌, ◌++◌, Bool, true, false, ◌||◌, cond, Option, None, Some, unwrap_or, refl, sym, ◌∙◌, ap, subst}
use Rattle.std.specs.Map.{set_value, remove_entry}
use Rattle.std.proofs.lemmas.Map.Steps.{set_value_same}
use Rattle.kv_model.specs.declared.version.Rev.{Rev}
use Rattle.kv_model.specs.Lists.{is_empty}
use Rattle.key_pages.specs.Pairs.{cut_by, cut_in, put_by, put_in, told_by}
use Rattle.key_index.specs.Index.{Index, IsIndex, found, revisions, added, with_revision, with_revisions, without_revision}
use Rattle.key_index.specs.KeyRevisions.{is_followed, without}
use Rattle.key_index.specs.declared.taken.Trimming.{Trimming}
use Rattle.key_index.specs.Taken.{trimmed}
use Rattle.key_index.proofs.Entries.{has, absent-changed}

pub put-added : (k : List ℕ) (p : Rev) (i : Index) → put_in (λ qs. qs ++ p ∷ []) k (p ∷ []) i ≡ with_revision k p i
put-added k p i = by (found k i)
  where
    by : (o : Option (List Rev)) → put_by (λ qs. qs ++ p ∷ []) k (p ∷ []) i o ≡ added k p o i
    by None = refl
    by (Some w) = refl

-- a key that has no revision left goes
pub cut-changed : (f : List Rev → List Rev) → f [] ≡ [] → (k : List ℕ) (i : Index)
    → cut_in f (λ qs. is_empty (f qs)) k i ≡ with_revisions k (f (revisions k i)) i
cut-changed f n k i = by (found k i) refl
  where
    test : (ms : List Rev) → cond (is_empty ms) (remove_entry (has k) i) (set_value (has k) i ms) ≡ with_revisions k ms i
    test [] = refl
    test (m ∷ ms) = refl

    by : (o : Option (List Rev)) → found k i ≡ o → cut_by f (λ qs. is_empty (f qs)) k i o ≡ with_revisions k (f (unwrap_or o [])) i
    by None e = absent-changed f n k i e ∙ ap (λ o. with_revisions k (f (unwrap_or o [])) i) e
    by (Some w) e = test (f w)

found-some : (k : List ℕ) (i : Index) (w : List Rev) → IsIndex i → found k i ≡ Some w → w ≢ []
found-some k [] w h e = cc
found-some k (f ∷ es) w h e = by (has k f.0) e (found-some k es w h.2)
  where
    by : (b : Bool) → cond b (Some f.1) (found k es) ≡ Some w → (found k es ≡ Some w → w ≢ []) → w ≢ []
    by true g rest = let same : f.1 ≡ w = cc in subst (λ l. l ≢ []) same h.0
    by false g rest = rest g

-- what is told of it
pub told-goes : (t : Trimming) (o : Option (List Rev)) → (told_by (trimmed t) t o).goes ≡ (is_followed t.rev t.main (unwrap_or o []) || t.goes)
told-goes t None = refl
told-goes t (Some w) = refl

-- a revision that is trimmed, or is not
pub trimmed-changed : (p : Rev) (b : Bool) (g : List Rev → Bool) (k : List ℕ) (i : Index)
    → cut_in (λ qs. cond (g qs || b) (without p qs) qs) (λ qs. is_empty (cond (g qs || b) (without p qs) qs)) k i
    ≡ cond (g (revisions k i) || b) (without_revision k p i) (with_revisions k (revisions k i) i)
trimmed-changed p b g k i =
    cut-changed (λ qs. cond (g qs || b) (without p qs) qs) (same (g [] || b)) k i ∙ by (g (revisions k i) || b)
  where
    same : (c : Bool) → cond c (without p []) [] ≡ []
    same true = refl
    same false = refl

    by : (c : Bool) → with_revisions k (cond c (without p (revisions k i)) (revisions k i)) i
        ≡ cond c (without_revision k p i) (with_revisions k (revisions k i) i)
    by true = refl
    by false = refl

-- the revisions that a key has are those that it has
pub same-revisions : (k : List ℕ) (i : Index) → IsIndex i → with_revisions k (revisions k i) i ≡ i
same-revisions k i h = by (found k i) refl
  where
    some : (w : List Rev) → w ≢ [] → set_value (has k) i w ≡ i → with_revisions k w i ≡ i
    some [] n e = absurd (n refl)
    some (q ∷ qs) n e = e

    by : (o : Option (List Rev)) → found k i ≡ o → with_revisions k (unwrap_or o []) i ≡ i
    by None e = ap (λ p. with_revisions k (unwrap_or p []) i) (sym e) ∙ sym (absent-changed (λ qs. qs) refl k i e)
    by (Some w) e = some w (found-some k i w h e) (set_value_same (has k) i w e)
