-- A trimming step over versions that rise, and their index.
use Rattle.std.proofs.Common.{◌≡◌, ℕ, List, [], ◌∷◌, ◌++◌, length, Bool, true, false, not, ◌&&◌, ◌||◌, cond}
use Rattle.std.proofs.Common.{filter, find, Option, None, Some, refl, sym, ◌∙◌, ap, subst, arith}
use Rattle.std.specs.Prelude.{nat_le, ◌≤◌}
use Rattle.std.proofs.lemmas.Bool.Decides.{nat_tests}
use Rattle.std.specs.List.{list_any}
use Rattle.kv_model.specs.declared.version.Rev.{Rev}
use Rattle.kv_model.specs.declared.version.Version.{Version}
use Rattle.kv_model.specs.Keys.{same_key}
use Rattle.kv_model.specs.History.{rev_lt, is_at, without_rev, is_superseded}
use Rattle.kv_model.specs.Told.{Trimmed}
use Rattle.store_laws.specs.Trimming.{TrimStep, is_trimmed}
use Rattle.store_laws.specs.Trimming.{place_after, visited, finished, trimmed, trimmed_next}
use Rattle.store_laws.proofs.PlaceSteps.{First, first-from}
use Rattle.store_laws.proofs.RevOrder.{rev_lt-main}
use Rattle.store_laws.proofs.Rising.{IsAbove, rising-parts}
use Rattle.version_table.specs.Rising.{IsRising}
use Rattle.version_table.proofs.Changes.{without_rev-middle}
use Rattle.key_index.specs.KeyRevisions.{after_place, is_followed, is_rev_up_to}
use Rattle.key_index.specs.Index.{Index, revisions, without_revision}
use Rattle.key_index.specs.Agrees.{Agrees, revisions_of}
use Rattle.key_index.proofs.Agrees.{revisions_of-cons, remove-agrees}
use Rattle.trim_core.specs.declared.trimmer.Trim.TheVariants.{Removed, Kept, Done}
use Rattle.trim_core.specs.Steps.{if_by, next_version, step_of}

-- ---- the version to visit

pub some-by : (c : ℕ) (v : Version) → nat_le v.rev.main c ≡ true → Some v ≡ if_by c (Some v)
some-by c v h = sym (ap (λ b. cond b (Some v) None) h)

pub first-of : (vs : List Version) (p : Rev) (c : ℕ) (v : Version) → next_version vs p c ≡ Some v
    → find (λ u. not (rev_lt u.rev p)) vs ≡ Some v
first-of vs p c v e = by (find (λ u. not (rev_lt u.rev p)) vs) e
  where
    by : (o : Option Version) → if_by c o ≡ Some v → o ≡ Some v
    by None f = cc
    by (Some u) f = at (nat_le u.rev.main c) f
      where
        at : (b : Bool) → cond b (Some u) None ≡ Some v → Some u ≡ Some v
        at true g = g
        at false g = cc

-- ---- what a step is

visits : (vs : List Version) (p : Rev) (c : ℕ) (v : Version) → next_version vs p c ≡ Some v → trimmed vs p c ≡ visited vs c v
unfolding trimmed
visits vs p c v e = by (find (λ u. not (rev_lt u.rev p)) vs) e
  where
    by : (o : Option Version) → if_by c o ≡ Some v → trimmed_next vs p c o ≡ visited vs c v
    by None f = cc
    by (Some u) f = at (nat_le u.rev.main c) f
      where
        at : (b : Bool) → cond b (Some u) None ≡ Some v → cond b (visited vs c u) (finished vs p) ≡ visited vs c v
        at true g = let same : u ≡ v = cc in ap (visited vs c) same
        at false g = cc

pub ends : (vs : List Version) (p : Rev) (c : ℕ) → next_version vs p c ≡ None → step_of (Done (length vs)) vs p ≡ trimmed vs p c
unfolding trimmed
ends vs p c e = by (find (λ u. not (rev_lt u.rev p)) vs) e
  where
    by : (o : Option Version) → if_by c o ≡ None → finished vs p ≡ trimmed_next vs p c o
    by None f = refl
    by (Some u) f = at (nat_le u.rev.main c) f
      where
        at : (b : Bool) → cond b (Some u) None ≡ None → finished vs p ≡ cond b (visited vs c u) (finished vs p)
        at true g = cc
        at false g = refl

abbrev either : List Version → Version → Bool → TrimStep
either vs v b =
    cond {A = TrimStep} b (record { told = Trimmed.removed v.rev; versions = without_rev (Some v.rev) vs; place = place_after v.rev })
    (record { told = Trimmed.kept v.rev; versions = vs; place = place_after v.rev })

pub removes : (vs : List Version) (p : Rev) (c : ℕ) (v : Version) → next_version vs p c ≡ Some v → is_trimmed vs c v ≡ true
    → step_of (Removed v.rev) (without_rev (Some v.rev) vs) (place_after v.rev) ≡ trimmed vs p c
removes vs p c v e h = sym (visits vs p c v e ∙ ap (either vs v) h)

pub stays : (vs : List Version) (p : Rev) (c : ℕ) (v : Version) → next_version vs p c ≡ Some v → is_trimmed vs c v ≡ false
    → step_of (Kept v.rev) vs (place_after v.rev) ≡ trimmed vs p c
stays vs p c v e h = sym (visits vs p c v e ∙ ap (either vs v) h)

-- what holds of the versions and of each choice of them holds of those that a step leaves
pub trimmed-keeps : (P : List Version → Type 0) (vs : List Version) (p : Rev) (c : ℕ) → P vs → ((t : Version → Bool) → P (filter t vs))
    → P (trimmed vs p c).versions
unfolding trimmed
trimmed-keeps P vs p c h f = by (find (λ u. not (rev_lt u.rev p)) vs)
  where
    look : (v : Version) (b : Bool) → P (either vs v b).versions
    look v true = f (λ u. not (is_at v.rev u))
    look v false = h

    by : (o : Option Version) → P (trimmed_next vs p c o).versions
    by None = h
    by (Some v) = at (nat_le v.rev.main c)
      where
        at : (b : Bool) → P (cond {A = TrimStep} b (visited vs c v) (finished vs p)).versions
        at true = look v (is_trimmed vs c v)
        at false = h

-- ---- whether a later version of the key is there

pub above-number : (a b c : ℕ) → a ≤ b → nat_le a c ≡ false → nat_le b c ≡ false
above-number a b c h g = grind (arith, nat_tests)

pub none-of : (a b : Bool) → (a && b && false) ≡ false
none-of true true = refl
none-of true false = refl
none-of false b = refl

module _ (k : List ℕ) (p : Rev) (c : ℕ) where
  abbrev later : Version → Bool
  later u = same_key u.key k && rev_lt p u.rev && nat_le u.rev.main c

  none-later : (q : Rev) (vs : List Version) → IsAbove (λ (u : Version). u.rev) q vs → nat_le q.main c ≡ false → list_any later vs ≡ false
  none-later q [] a h = refl
  none-later q (u ∷ us) a h =
      let high : nat_le u.rev.main c ≡ false = above-number q.main u.rev.main c (rev_lt-main q u.rev a.0) h in
      ap (λ b. (same_key u.key k && rev_lt p u.rev && b) || list_any later us) high
      ∙ ap (λ b. b || list_any later us) (none-of (same_key u.key k) (rev_lt p u.rev))
      ∙ none-later q us a.1 h

  superseded : (vs : List Version) → IsRising vs → list_any later vs ≡ is_rev_up_to c (after_place p (revisions_of k vs))
  superseded [] r = refl
  superseded (v ∷ vs) r =
      by (same_key v.key k) (rev_lt p v.rev) refl (nat_le v.rev.main c) refl (superseded vs r.1)
      ∙ sym (ap (λ qs. is_rev_up_to c (after_place p qs)) (revisions_of-cons k v vs))
    where
      here : (d : Bool) → nat_le v.rev.main c ≡ d → (d || list_any later vs) ≡ nat_le v.rev.main c
      here true f = sym f
      here false f = none-later v.rev vs r.0 f ∙ sym f

      by : (a b : Bool) → rev_lt p v.rev ≡ b → (d : Bool) → nat_le v.rev.main c ≡ d
          → list_any later vs ≡ is_rev_up_to c (after_place p (revisions_of k vs))
          → ((a && b && d) || list_any later vs) ≡ is_rev_up_to c (after_place p (cond a (v.rev ∷ revisions_of k vs) (revisions_of k vs)))
      by true true e d f rest =
          here d f ∙ sym (ap (λ b. is_rev_up_to c (cond b (Some v.rev) (after_place p (revisions_of k vs)))) e)
      by true false e d f rest =
          rest ∙ sym (ap (λ b. is_rev_up_to c (cond b (Some v.rev) (after_place p (revisions_of k vs)))) e)
      by false b e d f rest = rest

pub superseded-followed : (i : Index) (vs : List Version) (v : Version) (c : ℕ) → IsRising vs → Agrees i vs
    → is_followed v.rev c (revisions v.key i) ≡ is_superseded vs c v
unfolding is_superseded
superseded-followed i vs v c r a =
    ap (λ qs. is_rev_up_to c (after_place v.rev qs)) (a.each v.key) ∙ sym (superseded v.key v.rev c vs r)

-- ---- the index of what is left

pub out-agrees : (i : Index) (vs : List Version) (p : Rev) (c : ℕ) (v : Version) → Agrees i vs → IsRising vs → next_version vs p c ≡ Some v
    → Agrees (without_revision v.key v.rev i) (without_rev (Some v.rev) vs)
out-agrees i vs p c v a r e =
    let f : First p v vs = first-from p v vs (first-of vs p c v e) in
    let rising : IsRising (f.before ++ v ∷ f.after) = subst IsRising f.is r in
    let m = rising-parts (λ u. u.rev) f.before v f.after rising in
    let left : Agrees (without_revision v.key v.rev i) (f.before ++ f.after) =
    remove-agrees i f.before v f.after (subst (Agrees i) f.is a) m.0 m.1 in
    subst (λ (us : List Version). Agrees (without_revision v.key v.rev i) (without_rev (Some v.rev) us)) (sym f.is)
    (subst (Agrees (without_revision v.key v.rev i)) (sym (without_rev-middle f.before v f.after rising)) left)
