-- The versions that a planned path adds: those of the next revision, each as its key stood before all of them.
use Rattle.std.proofs.Common.{◌≡◌, ◌≢◌, ◌≤◌, ◌<◌, ◌^◌, ℕ, suc, ◌+◌, ◌&&◌, List, [], ◌∷◌, ◌++◌, length, map, true, refl, sym, ◌∙◌, ap, subst, arith, eq-eqb, lt-ltb}
use Rattle.std.proofs.Common.{ℤ, ◌-◌, filter, Bool, None, cond}
use Rattle.std.proofs.Math.Nat.{min-eq_left}
use Rattle.std.specs.Prelude.{⊤}
use Rattle.std.specs.List.{AllByRecursion}
use Rattle.kv_model.specs.declared.version.Rev.{Rev}
use Rattle.kv_model.specs.declared.version.Version.{Version}
use Rattle.kv_model.specs.declared.version.Body.{Body}
use Rattle.kv_model.specs.declared.version.Body.TheVariants.{Put, Gone}
use Rattle.kv_model.specs.Keys.{same_key}
use Rattle.kv_model.specs.History.{Mutation, value_now, now_after, end_of, rev_le}
use Rattle.kv_model.specs.Lists.{last_that}
use Rattle.store_laws.specs.Plans.{still_live, planned, planned_refusal}
use Rattle.kv_model.specs.Calls.{Ops}
use Rattle.kv_model.specs.Step.{last_main}
use Rattle.kv_model.specs.Txns.{Path, path_of, next_version, extend_all, added_by, put_change, deletes_of, static_fault, effect}
use Rattle.kv_model.specs.Txns.{run_refusal}
use Rattle.store_laws.proofs.Planning.{plan_refuses}
use Rattle.store_laws.proofs.PlaceLaws.{AreBy, rev_le-end}
use Rattle.store_laws.proofs.PlanLaws.{NoClash}
use Rattle.store_laws.proofs.BatchLaws.{extend_all-added}
use Rattle.range_view.specs.Stored.{goes_on, is_next, Viewed, IsUpTo}
use Rattle.txn_core.specs.KeyWrites.{IsCountedTo, as_kept, number_after}
use Rattle.txn_core.specs.Planning.{present}
use Rattle.txn_core.proofs.Apart.{planned-apart, planned-added}
use Rattle.txn_core.proofs.PutCounts.{last_that-holds}
use Rattle.request_core.specs.Writing.{IsHeldTo, AreNext}
use Rattle.request_core.proofs.Kept.{found-held, action-counted}
use Rattle.request_core.proofs.Worlds.{AreAt}

-- ---- they are numbered on

-- changes of one revision, numbered one by one
abbrev pub AreFrom : ℕ → ℕ → List Mutation → Type 0
AreFrom main sub [] = ⊤
AreFrom main sub (u ∷ us) = (u.rev ≡ record { main = main; sub = sub }) × AreFrom main (suc sub) us

from-append : (main sub : ℕ) (us ws : List Mutation) → AreFrom main sub us → AreFrom main (sub + length us) ws → AreFrom main sub (us ++ ws)
from-append main sub [] ws h g = let e : sub + 0 ≡ sub = omega arith in subst (λ n. AreFrom main n ws) e g
from-append main sub (u ∷ us) ws h g = let e : sub + suc (length us) ≡ suc sub + length us = omega arith in (h.0, from-append main (suc sub) us ws h.1 (subst (λ n. AreFrom main n ws) e g))

from-end : (main : ℕ) (us ws : List Mutation) → AreFrom main 0 us → AreFrom main (length us) ws → AreFrom main 0 (us ++ ws)
from-end main us ws h g = let e : length us ≡ 0 + length us = omega arith in from-append main 0 us ws h (subst (λ n. AreFrom main n ws) e g)

deletes-from : (main sub : ℕ) (ks : List (List ℕ)) → AreFrom main sub (deletes_of main sub ks)
deletes-from main sub [] = tt
deletes-from main sub (k ∷ ks) = (refl, deletes-from main (suc sub) ks)

pub planned-from : (vs : List Version) (main : ℕ) (us : List Mutation) (q : Path) → AreFrom main 0 us → AreFrom main 0 (planned vs main us q)
unfolding planned
planned-from vs main us Path.end h = h
planned-from vs main us (Path.range r rest) h = planned-from vs main us rest h
planned-from vs main us (Path.put p rest) h = planned-from vs main (us ++ put_change vs main (length us) p ∷ []) rest (from-end main us (put_change vs main (length us) p ∷ []) h (refl, tt))
planned-from vs main us (Path.delete d rest) h =
    let ks : List (List ℕ) = still_live vs us d.range in
    planned-from vs main (us ++ deletes_of main (length us) ks) rest (from-end main us (deletes_of main (length us) ks) h (deletes-from main (length us) ks))
planned-from vs main us (Path.txn b inner rest) h = planned-from vs main (planned vs main us inner) rest (planned-from vs main us inner h)

-- the revision after them
pub from-now : (r main sub : ℕ) (us : List Mutation) → us ≢ [] → AreFrom main sub us → now_after r us ≡ main
from-now r main sub [] some h = absurd (some refl)
from-now r main sub (u ∷ us) some h = at u.rev.main (suc sub) us (ap (λ (p : Rev). p.main) h.0) h.1
  where
    at : (n sub : ℕ) (us : List Mutation) → n ≡ main → AreFrom main sub us → now_after n us ≡ main
    at n sub [] e h = e
    at n sub (u ∷ us) e h = at u.rev.main (suc sub) us (ap (λ (p : Rev). p.main) h.0) h.1

versions-go_on : (vs : List Version) (main sub : ℕ) (us : List Mutation) → AreFrom main (suc sub) us → goes_on (record { main = main; sub = sub }) (map (next_version vs) us) ≡ true
versions-go_on vs main sub [] h = refl
versions-go_on vs main sub (u ∷ us) h =
    let here : u.rev.main ≡ main = ap (λ (p : Rev). p.main) h.0 in
    let number : u.rev.sub ≡ suc sub = ap (λ (p : Rev). p.sub) h.0 in
    let later : sub < u.rev.sub = omega (arith, number) in
    let rest : goes_on u.rev (map (next_version vs) us) ≡ true = ap (λ p. goes_on p (map (next_version vs) us)) h.0 ∙ versions-go_on vs main (suc sub) us h.1 in
    λ i. eq-eqb u.rev.main main here i && lt-ltb sub u.rev.sub later i && rest i

versions-next : (r : ℕ) (vs : List Version) (us : List Mutation) → AreFrom (r + 1) 0 us → is_next r (map (next_version vs) us) ≡ true
versions-next r vs [] h = refl
versions-next r vs (u ∷ us) h =
    let here : u.rev.main ≡ r + 1 = ap (λ (p : Rev). p.main) h.0 in
    let rest : goes_on u.rev (map (next_version vs) us) ≡ true = ap (λ p. goes_on p (map (next_version vs) us)) h.0 ∙ versions-go_on vs (r + 1) 0 us h.1 in
    λ i. eq-eqb u.rev.main (r + 1) here i && rest i

versions-at : (vs : List Version) (main sub : ℕ) (us : List Mutation) → AreFrom main sub us → AreAt main (map (next_version vs) us)
versions-at vs main sub [] h = tt
versions-at vs main sub (u ∷ us) h = (ap (λ (p : Rev). p.main) h.0, versions-at vs main (suc sub) us h.1)

pub planned_at : (vs : List Version) (main : ℕ) (q : Path) → AreAt main (map (next_version vs) (planned vs main [] q))
planned_at vs main q = versions-at vs main 0 (planned vs main [] q) (planned-from vs main [] q tt)

-- their numbers fit 64 bits where there are no more
versions-places : (vs : List Version) (main sub : ℕ) (us : List Mutation) → AreFrom main sub us → sub + length us ≤ 2 ^ 64 → AllByRecursion (λ v. v.rev.sub < 2 ^ 64) (map (next_version vs) us)
versions-places vs main sub [] h l = tt
versions-places vs main sub (u ∷ us) h l =
    let number : u.rev.sub ≡ sub = ap (λ (p : Rev). p.sub) h.0 in
    let here : u.rev.sub < 2 ^ 64 = omega (arith, number) in
    (here, versions-places vs main (suc sub) us h.1 (omega arith))

-- ---- they are counted

now-held : (r : ℕ) (vs : List Version) (k : List ℕ) → AllByRecursion (λ v. IsCountedTo r v.body) vs → IsHeldTo r (value_now vs k)
unfolding value_now
now-held r vs k h = found-held r (last_that (λ (v : Version). same_key v.key k) vs) (last_that-holds (λ (v : Version). IsCountedTo r v.body) (λ (v : Version). same_key v.key k) vs h)

versions-counted : (r : ℕ) (vs : List Version) (us : List Mutation) → AllByRecursion (λ v. IsCountedTo r v.body) vs → AllByRecursion (λ v. IsCountedTo (r + 1) v.body) (map (next_version vs) us)
versions-counted r vs [] h = tt
versions-counted r vs (u ∷ us) h = (action-counted r u.rev.main u.action (value_now vs u.key) (now-held r vs u.key h), versions-counted r vs us h)

-- so they are the versions of the next revision
pub planned-next : (r : ℕ) (vs : List Version) (q : Path) (ws : List Version) → AllByRecursion (λ v. IsCountedTo r v.body) vs → ws ≡ map (next_version vs) (planned vs (r + 1) [] q)
    → length (planned vs (r + 1) [] q) < 2 ^ 64 → ws ≢ [] → AreNext r ws
planned-next r vs q ws h e few some =
    let us : List Mutation = planned vs (r + 1) [] q in
    let numbered : AreFrom (r + 1) 0 us = planned-from vs (r + 1) [] q tt in
    record {
      some = some;
      next = ap (is_next r) e ∙ versions-next r vs us numbered;
      places = subst (AllByRecursion (λ v. v.rev.sub < 2 ^ 64)) (sym e) (versions-places vs (r + 1) 0 us numbered (omega (arith, few)));
      counted = subst (AllByRecursion (λ v. IsCountedTo (r + 1) v.body)) (sym e) (versions-counted r vs us h);
    }

-- ---- none of them hangs on another

pub planned-extends : (vs : List Version) (main : ℕ) (q : Path) → NoClash q → extend_all vs (planned vs main [] q) ≡ vs ++ map (next_version vs) (planned vs main [] q)
planned-extends vs main q n = extend_all-added vs (planned vs main [] q) ∙ ap (λ t. vs ++ t) (planned-apart vs main [] q tt n refl)

-- ---- they are what txn_core plans, of a transaction that passes its check

each-present : (p : Rev) (vs : List Version) → AreBy p vs → filter (λ v. rev_le v.rev p) vs ≡ vs
each-present p [] h = refl
each-present p (v ∷ vs) h = λ i. cond (h.0 i) (v ∷ each-present p vs h.1 i) (each-present p vs h.1 i)

all-by : (r : ℕ) (vs : List Version) → AllByRecursion (λ v. v.rev.main ≤ r) vs → AllByRecursion (λ v. v.rev.sub < 2 ^ 64) vs
    → AreBy (end_of r) vs
all-by r [] h s = tt
all-by r (v ∷ vs) h s = (rev_le-end v.rev r h.0 s.0, all-by r vs h.1 s.1)

pub all-present : (v : Viewed) → IsUpTo v.revision v.versions → AllByRecursion (λ w. w.rev.sub < 2 ^ 64) v.versions → present v ≡ v.versions
all-present v upto places = each-present (end_of v.revision) v.versions (all-by v.revision v.versions upto places)

kept-same : (n : ℕ) → n ≤ 2 ^ 64 - 1 → (rev : Rev) (k : List ℕ) (b : Body) → IsCountedTo n b
    → as_kept (record { rev = rev; key = k; body = b }) ≡ record { rev = rev; key = k; body = b }
kept-same n l rev k (Put create version lease value) h =
    ap (λ m. record { rev = rev; key = k; body = Put create m lease value }) (min-eq_left (omega (arith, l, h)))
kept-same n l rev k Gone h = refl

all-kept : (n : ℕ) → n ≤ 2 ^ 64 - 1 → (ws : List Version) → AllByRecursion (λ w. IsCountedTo n w.body) ws → map as_kept ws ≡ ws
all-kept n l [] h = refl
all-kept n l (w ∷ ws) h = λ i. kept-same n l w.rev w.key w.body h.0 i ∷ all-kept n l ws h.1 i

pub plan-versions : (v : Viewed) → present v ≡ v.versions → v.revision ≤ last_main → AllByRecursion (λ w. IsCountedTo v.revision w.body) v.versions
    → (ops : Ops) → static_fault ops ≡ None
    → map as_kept (added_by (present v) (effect (present v) (number_after v.revision) 0 (path_of (present v) v.revision ops)))
    ≡ map (next_version v.versions) (planned v.versions (v.revision + 1) [] (path_of v.versions v.revision ops))
plan-versions v same fits counted ops h =
    let vs : List Version = v.versions in
    let r : ℕ = v.revision in
    let us : List Mutation = planned vs (r + 1) [] (path_of vs r ops) in
    let next : number_after r ≡ r + 1 = min-eq_left (omega (arith, fits)) in
    (λ i. map as_kept (added_by (same i) (effect (same i) (next i) 0 (path_of (same i) r ops))))
    ∙ ap (map as_kept) (sym (planned-added vs r (r + 1) ops h))
    ∙ all-kept (r + 1) (omega (arith, fits)) (map (next_version vs) us) (versions-counted r vs us counted)

pub plan-refusal : (v : Viewed) → present v ≡ v.versions → (granted : ℤ → Bool) (ops : Ops) → static_fault ops ≡ None
    → run_refusal granted v.compacted v.revision (present v) 0 (path_of (present v) v.revision ops)
    ≡ planned_refusal granted v.compacted v.revision v.versions (path_of v.versions v.revision ops)
plan-refusal v same granted ops h =
    ap (λ vs. run_refusal granted v.compacted v.revision vs 0 (path_of vs v.revision ops)) same
    ∙ sym (plan_refuses granted v.compacted v.revision v.versions ops h)
