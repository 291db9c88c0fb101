-- The versions of one key, by its revisions.
use Rattle.std.proofs.Common.{◌≡◌, ℕ, zero, suc, ◌≤◌, ◌+◌, List, [], ◌∷◌, map, filter, drop, Bool, true, false, ◌&&◌, cond}
use Rattle.std.proofs.Common.{Option, None, Some, find, Bor, refl, sym, ◌∙◌, ap, arith, add-one}
use Rattle.std.specs.Prelude.{nat_lt, nat_le, MatchOption, option_copied}
use Rattle.std.specs.List.{AllByRecursion, slice_get}
use Rattle.std.proofs.lemmas.Bool.Decides.{nat_tests}
use Rattle.kv_model.specs.declared.version.Rev.{Rev}
use Rattle.kv_model.specs.declared.version.Version.{Version}
use Rattle.kv_model.specs.Keys.{same_key}
use Rattle.kv_model.specs.History.{rev_lt, is_at}
use Rattle.store_laws.proofs.PlaceLaws.{each-map, each-filter}
use Rattle.store_laws.proofs.RevOrder.{rev_lt-main, is_rev-self, is_rev-before}
use Rattle.store_laws.proofs.Rising.{kept-all, rising-filter}
use Rattle.version_table.specs.Rising.{IsRising, rev_of}
use Rattle.key_index.specs.KeyRevisions.{count_before}
use Rattle.key_index.specs.Index.{Index, revisions}
use Rattle.range_view.specs.OneKey.{led_by, standing_at}
use Rattle.range_view.specs.Stored.{AreTied}

-- ---- a step

pub standing-end : (vs : List Version) (qs : List Rev) (n : ℕ) → slice_get qs n ≡ None → standing_at vs (drop n qs) ≡ []
standing-end vs [] zero e = refl
standing-end vs [] (suc n) e = refl
standing-end vs (q ∷ qs) zero e = cc
standing-end vs (q ∷ qs) (suc n) e = standing-end vs qs n e

step : (vs : List Version) (qs : List Rev) (n : ℕ) (q : Rev) → slice_get qs n ≡ Some q
    → standing_at vs (drop n qs) ≡ led_by (find (is_at q) vs) (standing_at vs (drop (suc n) qs))
step vs [] n q e = cc
step vs (p ∷ qs) zero q e =
    let same : p ≡ q = cc in
    ap (λ r. led_by (find (is_at r) vs) (standing_at vs qs)) same
step vs (p ∷ qs) (suc n) q e = step vs qs n q e

pub standing-step : (vs : List Version) (qs : List Rev) (n : ℕ) (q : Rev) → slice_get qs n ≡ Some q
    → standing_at vs (drop n qs) ≡ led_by (find (is_at q) vs) (standing_at vs (drop (n + 1) qs))
standing-step vs qs n q e = rw add-one (step vs qs n q e)

-- what is led by a version that is lent, or by none
pub led : (o : Option (Bor Version)) (us vs : List Version) → us ≡ led_by (option_copied o) vs
    → MatchOption o (us ≡ []) (λ v. us ≡ v.now ∷ vs)
led None us vs e = e
led (Some v) us vs e = e

-- ---- all of them

found-each : (vs : List Version) → IsRising vs → AllByRecursion (λ v. find (is_at v.rev) vs ≡ Some v) vs
found-each [] r = tt
found-each (w ∷ ws) r = (
  ap (λ b. cond b (Some w) (find (is_at w.rev) ws)) (is_rev-self w.rev),
  later ws r.0 (found-each ws r.1),
)
  where
    later : (us : List Version) → AllByRecursion (λ v. rev_lt w.rev v.rev ≡ true) us
        → AllByRecursion (λ v. find (is_at v.rev) ws ≡ Some v) us → AllByRecursion (λ v. find (is_at v.rev) (w ∷ ws) ≡ Some v) us
    later [] a h = tt
    later (u ∷ us) a h = (
      ap (λ b. cond b (Some w) (find (is_at u.rev) ws)) (is_rev-before u.rev w.rev a.0) ∙ h.0,
      later us a.1 h.1,
    )

standing-found : (vs us : List Version) → AllByRecursion (λ u. find (is_at u.rev) vs ≡ Some u) us
    → standing_at vs (map (λ (u : Version). u.rev) us) ≡ us
standing-found vs [] h = refl
standing-found vs (u ∷ us) h = λ i. led_by (h.0 i) (standing-found vs us h.1 i)

-- those that are not of an earlier main revision stand behind those that are
from-count : (next : ℕ) (us : List Version) → IsRising us
    → drop (count_before next (map (λ (u : Version). u.rev) us)) (map (λ (u : Version). u.rev) us)
    ≡ map (λ (u : Version). u.rev) (filter (λ u. nat_le next u.rev.main) us)
from-count next [] r = refl
from-count next (u ∷ us) r = by (nat_lt u.rev.main next) refl (from-count next us r.1)
  where
    revs : List Version → List Rev
    revs ws = map (λ (w : Version). w.rev) ws

    left : List Version
    left = filter (λ w. nat_le next w.rev.main) us

    all : nat_le next u.rev.main ≡ true → AllByRecursion (λ w. nat_le next w.rev.main ≡ true) us
    all h = each-map (λ (w : Version). rev_lt u.rev w.rev ≡ true) (λ w. nat_le next w.rev.main ≡ true)
        (λ w a. let l : u.rev.main ≤ w.rev.main = rev_lt-main u.rev w.rev a in grind (arith, nat_tests)) us r.0

    by : (b : Bool) → nat_lt u.rev.main next ≡ b → drop (count_before next (revs us)) (revs us) ≡ revs left
        → drop (cond b (suc (count_before next (revs us))) zero) (u.rev ∷ revs us)
        ≡ revs (cond (nat_le next u.rev.main) (u ∷ left) left)
    by true e rest =
        let before : nat_le next u.rev.main ≡ false = grind (arith, nat_tests) in
        rest ∙ sym (ap (λ b. revs (cond b (u ∷ left) left)) before)
    by false e rest =
        let from : nat_le next u.rev.main ≡ true = grind (arith, nat_tests) in
        sym (ap (λ b. revs (cond b (u ∷ left) left)) from ∙ ap (λ ws. u.rev ∷ revs ws) (kept-all (λ w. nat_le next w.rev.main) us (all from)))

pub filter-both : (p q : Version → Bool) (vs : List Version) → filter p (filter q vs) ≡ filter (λ v. p v && q v) vs
filter-both p q [] = refl
filter-both p q (v ∷ vs) = by (q v) (p v) refl (filter-both p q vs)
  where
    both : List Version
    both = filter (λ w. p w && q w) vs

    by : (b a : Bool) → p v ≡ a → filter p (filter q vs) ≡ both
        → filter p (cond b (v ∷ filter q vs) (filter q vs)) ≡ cond (p v && b) (v ∷ both) both
    by true true e rest = (λ i. cond (e i) (v ∷ rest i) (rest i)) ∙ sym (ap (λ c. cond (c && true) (v ∷ both) both) e)
    by true false e rest = (λ i. cond (e i) (v ∷ rest i) (rest i)) ∙ sym (ap (λ c. cond (c && true) (v ∷ both) both) e)
    by false true e rest = rest ∙ sym (ap (λ c. cond (c && false) (v ∷ both) both) e)
    by false false e rest = rest ∙ sym (ap (λ c. cond (c && false) (v ∷ both) both) e)

-- the versions at the revisions that the index has of a key, from a revision on
pub standing-from : (i : Index) (vs : List Version) (k : List ℕ) (next : ℕ) → AreTied i vs
    → standing_at vs (drop (count_before next (revisions k i)) (revisions k i))
    ≡ filter (λ v. nat_le next v.rev.main && same_key v.key k) vs
standing-from i vs k next t =
    let p : Version → Bool = λ v. nat_le next v.rev.main in
    let q : Version → Bool = λ v. same_key v.key k in
    ap (λ qs. standing_at vs (drop (count_before next qs) qs)) (t.agrees.each k)
    ∙ ap (standing_at vs) (from-count next (filter q vs) (rising-filter rev_of q vs t.rising))
    ∙ standing-found vs (filter p (filter q vs)) (each-filter (λ u. find (is_at u.rev) vs ≡ Some u) p (filter q vs)
    (each-filter (λ u. find (is_at u.rev) vs ≡ Some u) q vs (found-each vs t.rising)))
    ∙ filter-both p q vs
