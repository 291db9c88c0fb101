-- A main revision that none of an index is above, as the index changes.
use Rattle.std.proofs.Common.{◌≡◌, ℕ, ◌≤◌, max, List, [], ◌∷◌, ◌++◌, drop, Bool, true, false, not, ◌&&◌, cond, Option, None, Some}
use Rattle.std.proofs.Common.{unwrap_or, ap, refl, arith}
use Rattle.std.proofs.Math.Nat.{le-max_left, le-max_right}
use Rattle.std.specs.Option.{option_or}
use Rattle.std.specs.Map.{set_value}
use Rattle.std.proofs.lemmas.Bool.{le-leb}
use Rattle.kv_model.specs.declared.version.Rev.{Rev}
use Rattle.kv_model.specs.declared.version.Version.{Version}
use Rattle.store_laws.proofs.PlaceLaws.{each-map, each-append, each-filter}
use Rattle.key_index.specs.KeyRevisions.{AreUpTo, newest, is_last_up_to, ends_up_to, is_rev, undone, without}
use Rattle.key_index.specs.Index.{Index, IsIndex, IsBound, found, revisions, added, with_revision, with_revisions, without_revision}
use Rattle.key_index.specs.Index.{is_up_to, retracted, retracted_newest}
use Rattle.key_index.proofs.KeyRevisions.{each-undone}
use Rattle.key_index.proofs.Entries.{has, each-set, each-insert, each-remove, index-with_revisions}

-- ---- the revisions of a key

up_to-more : (a b : ℕ) → a ≤ b → (qs : List Rev) → AreUpTo a qs → AreUpTo b qs
up_to-more a b l = each-map (λ (q : Rev). q.main ≤ a) (λ q. q.main ≤ b) (λ q h. omega arith)

pub up_to-front : (n : ℕ) (qs : List Rev) → AreUpTo n qs → AreUpTo n (drop 1 qs)
up_to-front n [] h = tt
up_to-front n (q ∷ qs) h = h.1

pub up_to-undone : (n main : ℕ) (qs : List Rev) → AreUpTo n qs → AreUpTo n (undone main qs)
up_to-undone n = each-undone (λ (q : Rev). q.main ≤ n)

pub up_to-without : (n : ℕ) (p : Rev) (qs : List Rev) → AreUpTo n qs → AreUpTo n (without p qs)
up_to-without n p = each-filter (λ (q : Rev). q.main ≤ n) (λ q. not (is_rev p q))

up_to-ends : (n : ℕ) (qs : List Rev) → AreUpTo n qs → ends_up_to n qs ≡ true
up_to-ends n [] h = refl
up_to-ends n (q ∷ qs) h = by (newest qs) (up_to-ends n qs h.1)
  where
    by : (o : Option Rev) → is_last_up_to n o ≡ true → is_last_up_to n (option_or o (Some q)) ≡ true
    by None e = le-leb q.main n h.0
    by (Some l) e = e

-- ---- those of an index

bound-more : (a b : ℕ) → a ≤ b → (i : Index) → IsBound a i → IsBound b i
bound-more a b l = each-map (λ (e : List ℕ × List Rev). AreUpTo a e.1) (λ e. AreUpTo b e.1) (λ e h. up_to-more a b l e.1 h)

bound-set : (n : ℕ) (k : List ℕ) (qs : List Rev) → AreUpTo n qs → (i : Index) → IsBound n i → IsBound n (set_value (has k) i qs)
bound-set n k qs u = each-set (λ e. AreUpTo n e.1) k qs (λ j rs h. u)

bound-revisions : (n : ℕ) (k : List ℕ) (i : Index) → IsBound n i → AreUpTo n (revisions k i)
bound-revisions n k [] h = tt
bound-revisions n k (e ∷ es) h = by (has k e.0) (bound-revisions n k es h.1)
  where
    by : (b : Bool) → AreUpTo n (revisions k es) → AreUpTo n (unwrap_or (cond b (Some e.1) (found k es)) [])
    by true rest = h.0
    by false rest = rest

bound-added : (n : ℕ) (k : List ℕ) (q : Rev) (i : Index) → q.main ≤ n → IsBound n i → IsBound n (with_revision k q i)
bound-added n k q i l h = by (found k i) (bound-revisions n k i h)
  where
    by : (o : Option (List Rev)) → AreUpTo n (unwrap_or o []) → IsBound n (added k q o i)
    by None u = each-insert (λ e. AreUpTo n e.1) k (q ∷ []) (l, tt) (λ j rs h. (l, tt)) i h
    by (Some qs) u = bound-set n k (qs ++ q ∷ []) (each-append (λ (r : Rev). r.main ≤ n) qs (q ∷ []) u (l, tt)) i h

-- one revision more raises it
pub bound-with_revision : (n : ℕ) (k : List ℕ) (q : Rev) (i : Index) → IsBound n i → IsBound (max n q.main) (with_revision k q i)
bound-with_revision n k q i h =
    bound-added (max n q.main) k q i (le-max_right n q.main) (bound-more n (max n q.main) (le-max_left n q.main) i h)

bound-with_revisions : (n : ℕ) (k : List ℕ) (qs : List Rev) → AreUpTo n qs → (i : Index) → IsBound n i → IsBound n (with_revisions k qs i)
bound-with_revisions n k [] u i h = each-remove (λ e. AreUpTo n e.1) k i h
bound-with_revisions n k (q ∷ qs) u i h = bound-set n k (q ∷ qs) u i h

-- other revisions for a key leave an index that is bound, where they are
pub bound-changed : (f : List Rev → List Rev) (n : ℕ) → ((qs : List Rev) → AreUpTo n qs → AreUpTo n (f qs)) → (k : List ℕ) (i : Index)
    → IsIndex i × IsBound n i → IsIndex (with_revisions k (f (revisions k i)) i) × IsBound n (with_revisions k (f (revisions k i)) i)
bound-changed f n u k i h = (
  index-with_revisions k (f (revisions k i)) i h.0,
  bound-with_revisions n k (f (revisions k i)) (u (revisions k i) (bound-revisions n k i h.1)) i h.1,
)

pub bound-trimmed : (p : Rev) (b : Bool) (n : ℕ) (k : List ℕ) (i : Index) → IsIndex i × IsBound n i
    → let j = cond b (without_revision k p i) (with_revisions k (revisions k i) i) in IsIndex j × IsBound n j
bound-trimmed p true n k i h = bound-changed (without p) n (up_to-without n p) k i h
bound-trimmed p false n k i h = bound-changed (λ qs. qs) n (λ qs u. u) k i h

-- ---- where no later main revision is there

pub bound-up_to : (n main : ℕ) (i : Index) → n ≤ main → IsBound n i → is_up_to main i ≡ true
bound-up_to n main [] l h = refl
bound-up_to n main (e ∷ es) l h = (λ j. up_to-ends main e.1 (up_to-more n main l e.1 h.0) j && bound-up_to n main es l h.1 j)

pub taken_back : (main : ℕ) (cs : List Version) (i : Index) → is_up_to main i ≡ true → retracted_newest main cs i ≡ retracted main cs i
taken_back main cs i h = ap (λ b. cond b (retracted main cs i) i) h
