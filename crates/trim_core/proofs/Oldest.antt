-- The version that a step takes out is the oldest of its key, where nothing that goes was left behind.
use Rattle.std.proofs.Common.{◌≡◌, ◌≤◌, ℕ, ◌-◌, List, [], ◌∷◌, ◌++◌, Bool, true, false, ◌&&◌, ◌||◌}
use Rattle.std.proofs.Common.{cond, refl, sym, ◌∙◌, ap, subst, arith}
use Rattle.std.specs.Prelude.{nat_le, nat_lt}
use Rattle.std.proofs.lemmas.Bool.{le-leb}
use Rattle.std.specs.List.{AllByRecursion, list_any}
use Rattle.std.proofs.Math.Bool.{or-true}
use Rattle.kv_model.specs.declared.version.Rev.{Rev}
use Rattle.kv_model.specs.declared.version.Version.{Version}
use Rattle.kv_model.specs.Keys.{same_key}
use Rattle.kv_model.specs.History.{rev_lt, is_superseded, is_tombstone}
use Rattle.store_laws.specs.Trimming.{is_trimmed}
use Rattle.store_laws.proofs.HistoryLaws.{AllByRecursion-split, same_key-eq}
use Rattle.store_laws.proofs.KeyLaws.{same-refl}
use Rattle.store_laws.proofs.PlaceSteps.{First, first-from}
use Rattle.store_laws.proofs.RevOrder.{rev_lt-main, is_rev-self}
use Rattle.store_laws.proofs.Rising.{rising-parts}
use Rattle.store_laws.proofs.TrimLaws.{goes-by}
use Rattle.version_table.specs.Rising.{IsRising}
use Rattle.key_index.specs.KeyRevisions.{is_oldest}
use Rattle.key_index.specs.Agrees.{revisions_of}
use Rattle.key_index.proofs.Agrees.{revisions_of-append, revisions_of-cons}
use Rattle.trim_core.specs.Steps.{RemovedIsOldest}
use Rattle.trim_core.proofs.Stepping.{first-of}

any-middle : (t : Version → Bool) (xs : List Version) (v : Version) (ys : List Version) → t v ≡ true → list_any t (xs ++ v ∷ ys) ≡ true
any-middle t [] v ys h = ap (λ b. b || list_any t ys) h
any-middle t (x ∷ xs) v ys h = ap (λ b. t x || b) (any-middle t xs v ys h) ∙ or-true (t x)

-- a version of the same key replaces those before it
replaced : (xs : List Version) (v : Version) (ys : List Version) (c : ℕ) (u : Version) → same_key u.key v.key ≡ true
    → rev_lt u.rev v.rev ≡ true → nat_le v.rev.main c ≡ true
    → is_superseded (xs ++ v ∷ ys) c u ≡ true
unfolding is_superseded
replaced xs v ys c u s l n =
    let same : same_key v.key u.key ≡ true = ap (λ k. same_key v.key k) (same_key-eq u.key v.key s) ∙ same-refl v.key in
    any-middle (λ w. same_key w.key u.key && rev_lt u.rev w.rev && nat_le w.rev.main c) xs v ys (λ i. same i && l i && n i)

module _ (vs : List Version) (p : Rev) (c : ℕ) (v : Version) (n : v.rev.main ≤ c - 1)
    (goes : (u : Version) → same_key u.key v.key ≡ true → rev_lt u.rev v.rev ≡ true → is_superseded vs (c - 1) u ≡ true) where
  none-earlier : (us : List Version) → AllByRecursion (λ u. rev_lt u.rev p ≡ true) us
      → AllByRecursion (λ u. (rev_lt u.rev p && (nat_le u.rev.main c && is_trimmed vs c u)) ≡ false) us
      → AllByRecursion (λ u. rev_lt u.rev v.rev ≡ true) us → revisions_of v.key us ≡ []
  none-earlier [] b t l = refl
  none-earlier (u ∷ us) b t l = revisions_of-cons v.key u us ∙ by (same_key u.key v.key) refl (none-earlier us b.1 t.1 l.1)
    where
      by : (a : Bool) → same_key u.key v.key ≡ a → revisions_of v.key us ≡ []
          → cond a (u.rev ∷ revisions_of v.key us) (revisions_of v.key us) ≡ []
      by true e rest =
          let m : u.rev.main ≤ v.rev.main = rev_lt-main u.rev v.rev l.0 in
          let under : nat_le u.rev.main c ≡ true = le-leb u.rev.main c (omega (arith, n)) in
          let out : is_superseded vs (c - 1) u ≡ true = goes u e l.0 in
          let x : true ≡ false = (λ i. sym b.0 i && (sym under i && (sym out i || (is_tombstone u.body && nat_lt u.rev.main c)))) ∙ t.0 in
          cc
      by false e rest = rest

pub removed-oldest : RemovedIsOldest
removed-oldest i vs p c v r a t e out =
    let f : First p v vs = first-from p v vs (first-of vs p c v e) in
    let m = rising-parts (λ u. u.rev) f.before v f.after (subst IsRising f.is r) in
    let n : v.rev.main ≤ c - 1 = goes-by vs c v out in
    let goes : (u : Version) → same_key u.key v.key ≡ true → rev_lt u.rev v.rev ≡ true → is_superseded vs (c - 1) u ≡ true =
    λ u s l. subst (λ us. is_superseded us (c - 1) u ≡ true) (sym f.is) (replaced f.before v f.after (c - 1) u s l
    (le-leb v.rev.main (c - 1) n)) in
    let left = AllByRecursion-split (λ u. (rev_lt u.rev p && (nat_le u.rev.main c && is_trimmed vs c u)) ≡ false) f.before (v ∷ f.after)
    (subst (λ us. AllByRecursion (λ u. (rev_lt u.rev p && (nat_le u.rev.main c && is_trimmed vs c u)) ≡ false) us) f.is t) in
    let none : revisions_of v.key f.before ≡ [] = none-earlier vs p c v n goes f.before f.all_before left.0 m.0 in
    ap (is_oldest v.rev) (
    a.each v.key ∙ ap (revisions_of v.key) f.is ∙ revisions_of-append v.key f.before (v ∷ f.after)
    ∙ ap (λ qs. qs ++ revisions_of v.key (v ∷ f.after)) none
    ∙ revisions_of-cons v.key v f.after
    ∙ ap (λ b. cond b (v.rev ∷ revisions_of v.key f.after) (revisions_of v.key f.after)) (same-refl v.key))
    ∙ is_rev-self v.rev
