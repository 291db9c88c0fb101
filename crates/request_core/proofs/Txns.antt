-- What a transaction does, in each world that the core stands for.
use Rattle.std.proofs.Common.{◌≡◌, ◌≢◌, ℕ, ◌+◌, ◌<◌, ◌≤◌, ◌^◌, ◌&&◌, List, [], ◌∷◌, length, map, Vec, Global}
use Rattle.std.proofs.Common.{Bool, true, false, not, Option, None, Some, Result, Ok, Err, refl, sym, ◌∙◌, ap, subst, arith}
use Rattle.std.proofs.Common.{inl, inr}
use Rattle.std.specs.Prelude.{IfErr, OnOk}
use Rattle.std.specs.Option.{option_or}
use Rattle.std.specs.List.{AllByRecursion}
use Rattle.kv_model.specs.declared.call.Txn.{Txn}
use Rattle.kv_model.specs.declared.refusal.Refusal.{Refusal}
use Rattle.kv_model.specs.declared.refusal.Refusal.TheVariants.{Memory, RevisionsSpent}
use Rattle.kv_model.specs.declared.version.Version.{Version}
use Rattle.kv_model.specs.Calls.{Ops, as_call}
use Rattle.kv_model.specs.Commands.{txn_view}
use Rattle.kv_model.specs.History.{Mutation, end_of, rev_le, now_after}
use Rattle.kv_model.specs.Leases.{is_granted}
use Rattle.kv_model.specs.Lists.{is_empty}
use Rattle.store_laws.specs.Plans.{ReadsKept}
use Rattle.kv_model.specs.Ranges.{refuse_if}
use Rattle.kv_model.specs.Told.{Reply}
use Rattle.kv_model.specs.Txns.{Path, next_version, extend_all, static_fault, walk_fault, changes_of, replies_of}
use Rattle.kv_model.specs.World.{World}
use Rattle.kv_model.specs.Wire.{changes_beside}
use Rattle.kv_model.specs.Step.{last_main, made_in, refused_or, commit_at, succeeded, inner_path}
use Rattle.store_laws.specs.Stands.{Store, StandsFor, grown_noted}
use Rattle.store_laws.specs.Stores.{path_in, refusal_of_path, changes_of_path, reply_of_path}
use Rattle.store_laws.proofs.CountLaws.{changes_counted, branch_changes}
use Rattle.store_laws.proofs.PathLaws.{path-checked}
use Rattle.store_laws.proofs.PlaceLaws.{rev_le-end}
use Rattle.store_laws.proofs.PlanLaws.{NoClash}
use Rattle.store_laws.proofs.ReplyLaws.{not-refused-reads}
use Rattle.store_laws.proofs.StandsTxns.{txn_refused, txn_told, txn_stands}
use Rattle.range_view.specs.Stored.{IsUpTo}
use Rattle.txn_core.specs.declared.step.Step.{Step}
use Rattle.txn_core.specs.Planning.{IsAtOnce}
use Rattle.txn_core.specs.Steps.{steps_view}
use Rattle.txn_core.proofs.AtOnce.{told-none}
use Rattle.txn_core.proofs.StaticFaults.{IsRefused, faulty}
use Rattle.txn_core.proofs.Walking.{txn_view-out}
use Rattle.request_core.specs.declared.answer.Todo.TheVariants as todo
use Rattle.request_core.specs.State.{CoreState, is_spent, with_any, with_versions, fault_of_txn, added_by_txn, after_txn}
use Rattle.request_core.specs.Answers.{CanReply, IsFirst, IsRefusal}
use Rattle.request_core.specs.Commands.{CarriesOut, Makes, Moves, Refuses, fault_without_memory, takes_memory}
use Rattle.request_core.proofs.Planned.{planned_at, planned-from, from-now, planned-extends}
use Rattle.request_core.proofs.Worlds.{grows_by, any_moves, changed_by, committed, made_first, refused_first}
use Rattle.request_core.proofs.Worlds.{commit_made, commit_spent, fault_told, first_or_later, is_refused, own_refusal}
use Rattle.store_laws.proofs.GoodLaws.{or-none-first, or-none}
use Rattle.request_core.proofs.Leased.{any-versions}

-- ---- a transaction is a row of one

pub txn-beside : (w : World) (t : Txn) → changes_beside w (as_call (txn_view t)) ≡ false
txn-beside w t = subst (λ (ops : Ops). changes_beside w (as_call ops) ≡ false) (sym (txn_view-out t)) refl

-- ---- its faults, in their order

-- a path that is not refused, and needs no revision past the last
faultless : (s : Store) (ops : Ops) → fault_of_txn s ops ≡ None
    → (static_fault ops ≡ None) × (refusal_of_path s (path_in s ops) ≡ None) × (refuse_if (not (is_empty (changes_of_path s (path_in s ops))) && is_spent s.revision) RevisionsSpent ≡ None)
faultless s ops none =
    let rest : option_or (refusal_of_path s (path_in s ops)) (refuse_if (not (is_empty (changes_of_path s (path_in s ops))) && is_spent s.revision) RevisionsSpent) ≡ None = or-none (static_fault ops) _ none in
    (or-none-first (static_fault ops) _ none, or-none-first (refusal_of_path s (path_in s ops)) _ rest, or-none (refusal_of_path s (path_in s ops)) _ rest)

-- ---- what it leaves

some-compacted : (s : CoreState) (vs : List Version) → (with_any s vs).store.compacted ≡ s.store.compacted
some-compacted s [] = refl
some-compacted s (v ∷ vs) = refl

checked-clear : (s : Store) (ops : Ops) → fault_of_txn s ops ≡ None → NoClash (path_in s ops)
checked-clear s ops none = (path-checked s.versions s.revision ops (faultless s ops none).0).0

-- the versions are those that the changes make one after another
left-versions : (s new : CoreState) (ops : Ops) → fault_of_txn s.store ops ≡ None → new ≡ after_txn s ops
    → new.store.versions ≡ extend_all s.store.versions (changes_of_path s.store (path_in s.store ops))
left-versions s new ops none e = ap (λ (t : CoreState). t.store.versions) e ∙ any-versions s (added_by_txn s.store ops)
    ∙ sym (planned-extends s.store.versions (s.store.revision + 1) (path_in s.store ops) (checked-clear s.store ops none))

left-compacted : (s new : CoreState) (ops : Ops) → new ≡ after_txn s ops → new.store.compacted ≡ s.store.compacted
left-compacted s new ops e = ap (λ (t : CoreState). t.store.compacted) e ∙ some-compacted s (added_by_txn s.store ops)

-- ---- what is read of it

-- the versions that are kept stand at the end of their revision or before it
pub kept-by : (r : ℕ) (vs : List Version) → IsUpTo r vs → AllByRecursion (λ v. v.rev.sub < 2 ^ 64) vs → AllByRecursion (λ v. rev_le v.rev (end_of r) ≡ true) vs
kept-by r [] upto places = tt
kept-by r (v ∷ vs) upto places = (rev_le-end v.rev r upto.0 places.0, kept-by r vs upto.1 places.1)

-- ---- an accepted transaction

-- a transaction that a core ran: whether its compares held, and the operations that ran
pub record WasRun (s new : CoreState) (ops : Ops) (b : Bool) (inner : Path) : Type 0 where
  pub upto : IsUpTo s.store.revision s.store.versions
  pub places : AllByRecursion (λ v. v.rev.sub < 2 ^ 64) s.store.versions
  pub fits : s.store.revision ≤ last_main
  pub clear : fault_of_txn s.store ops ≡ None
  pub made : new ≡ after_txn s ops
  pub path : Path.txn b inner Path.end ≡ path_in s.store ops
  pub few : length (changes_of_path s.store (path_in s.store ops)) < 2 ^ 64

-- what ran can be answered on what was left
txn-readable : (s new : CoreState) (ops : Ops) (b : Bool) (inner : Path) → WasRun s new ops b inner
    → CanReply new.store s.store.revision inner
txn-readable s new ops b inner was =
    let q : Path = path_in s.store ops in
    let reads : ReadsKept s.store.compacted s.store.revision (Path.txn b inner Path.end)
    = subst (ReadsKept s.store.compacted s.store.revision) (sym was.path)
    (not-refused-reads (is_granted s.store.leases) s.store.compacted s.store.revision s.store.versions q
    (faultless s.store ops was.clear).1) in
    let count : changes_of new.store.versions (s.store.revision + 1) 0 inner ≡ length (changes_of_path s.store q)
    = sym (branch_changes new.store.versions (s.store.revision + 1) 0 b inner)
    ∙ (λ i. changes_of (left-versions s new ops was.clear was.made i) (s.store.revision + 1) 0 (was.path i))
    ∙ changes_counted s.store.versions s.store.revision q (kept-by s.store.revision s.store.versions was.upto was.places)
    (checked-clear s.store ops was.clear) in
    record {
      reads = subst (λ c. ReadsKept c s.store.revision inner) (sym (left-compacted s new ops was.made)) reads.0;
      few = subst (λ n. n < 2 ^ 64) (sym count) was.few;
      fits = let fits : s.store.revision ≤ last_main = was.fits in omega arith;
    }

-- the answer, read on what was left
left-answer : (s new : CoreState) (ops : Ops) (b : Bool) (inner : Path) → WasRun s new ops b inner
    → Reply.txn b (replies_of new.store.versions s.store.revision 0 inner) ≡ reply_of_path s.store (path_in s.store ops)
left-answer s new ops b inner was = λ i. Reply.txn (succeeded (was.path i))
    (replies_of (left-versions s new ops was.clear was.made i) s.store.revision 0 (inner_path (was.path i)))

-- the store grows by its changes, where there are some
txn-grows : (s : CoreState) (ops : Ops) → fault_of_txn s.store ops ≡ None → changes_of_path s.store (path_in s.store ops) ≢ []
    → grown_noted s.store (changes_of_path s.store (path_in s.store ops)) ≡ (after_txn s ops).store
txn-grows s ops clear some =
    let q : Path = path_in s.store ops in
    let rose : now_after s.store.revision (changes_of_path s.store q) ≡ s.store.revision + 1
    = from-now s.store.revision (s.store.revision + 1) 0 (changes_of_path s.store q) some
    (planned-from s.store.versions (s.store.revision + 1) [] q tt) in
    grows_by s (changes_of_path s.store q) (added_by_txn s.store ops)
    (planned-extends s.store.versions (s.store.revision + 1) q (checked-clear s.store ops clear)) rose
    ∙ sym (any-some s (changes_of_path s.store q) some)
  where
    any-some : (s : CoreState) (us : List Mutation) → us ≢ []
        → (with_any s (map (next_version s.store.versions) us)).store ≡ (with_versions s (map (next_version s.store.versions) us)).store
    any-some s [] some = absurd (some refl)
    any-some s (u ∷ us) some = refl

txn-stays : (s : CoreState) (ops : Ops) → changes_of_path s.store (path_in s.store ops) ≡ [] → s.store ≡ (after_txn s ops).store
txn-stays s ops none = sym (ap (λ us. (with_any s (map (next_version s.store.versions) us)).store) none)

-- a transaction of the program as the model takes it
txn-told : (s : Store) (w : World) → StandsFor s w → (t : Txn) → static_fault (txn_view t) ≡ None → made_in w (as_call (txn_view t))
    ≡ refused_or (refusal_of_path s (path_in s (txn_view t)))
    (commit_at s.revision (reply_of_path s (path_in s (txn_view t))) w (changes_of_path s (path_in s (txn_view t))))
txn-told s w h t = subst (λ (ops : Ops). static_fault ops ≡ None → made_in w (as_call ops) ≡ refused_or (refusal_of_path s (path_in s ops))
    (commit_at s.revision (reply_of_path s (path_in s ops)) w (changes_of_path s (path_in s ops)))) (sym (txn_view-out t))
    (txn_told s w h _ _ _)

txn-makes : (s new : CoreState) (t : Txn) (b : Bool) (inner : Path) → WasRun s new (txn_view t) b inner → (w : World) → StandsFor s.store w
    → Makes w (as_call (txn_view t)) (reply_of_path s.store (path_in s.store (txn_view t))) (after_txn s (txn_view t)).store
txn-makes s new t b inner was w h =
    let ops : Ops = txn_view t in
    let q : Path = path_in s.store ops in
    let us : List Mutation = changes_of_path s.store q in
    let few : length us < 2 ^ 64 = was.few in
    let static : static_fault ops ≡ None = (faultless s.store ops was.clear).0 in
    record {
      after = changed_by w us;
      made = txn-told s.store w h t static
          ∙ made_first (refusal_of_path s.store q) _ _ _ (commit_made s.store.revision (reply_of_path s.store q) w us)
          (or-none (static_fault ops) _ was.clear);
      stands = committed s.store (after_txn s ops).store us w (record {
        stood = h;
        stands = txn_stands s.store w h ops static (omega arith);
        grows = txn-grows s ops was.clear;
        stays = txn-stays s ops;
      });
    }

pub txn_done : (s new : CoreState) (t : Txn) (b : Bool) (steps : Vec Step Global) → WasRun s new (txn_view t) b (steps_view steps.items)
    → CarriesOut s new (as_call (txn_view t)) (todo.Txn s.store.revision b steps)
txn_done s new t b steps was =
    let left : new ≡ after_txn s (txn_view t) = was.made in
    record {
      makes = λ w h. subst (λ (n : CoreState). Makes w (as_call (txn_view t))
          (Reply.txn b (replies_of new.store.versions s.store.revision 0 (steps_view steps.items))) n.store) (sym left)
          (subst (λ r. Makes w (as_call (txn_view t)) r (after_txn s (txn_view t)).store)
          (sym (left-answer s new (txn_view t) b (steps_view steps.items) was)) (txn-makes s new t b (steps_view steps.items) was w h));
      allowed = txn-readable s new (txn_view t) b (steps_view steps.items) was;
      beside = λ w h. sym (txn-beside w t);
      moves = subst (λ (n : CoreState). Moves s n false None) (sym left) (any_moves s (added_by_txn s.store (txn_view t)) false
          (planned_at s.store.versions (s.store.revision + 1) (path_in s.store (txn_view t))));
    }

-- ---- a refused one

txn-static : (w : World) (t : Txn) (e : Refusal) → static_fault (txn_view t) ≡ Some e → made_in w (as_call (txn_view t)) ≡ Err e
txn-static w t e = subst (λ (ops : Ops). static_fault ops ≡ Some e → made_in w (as_call ops) ≡ Err e) (sym (txn_view-out t))
    (txn_refused w _ _ _ e)

-- the model refuses a transaction as the store does
txn-refused : (s : Store) (w : World) (t : Txn) (e : Refusal) → StandsFor s w → fault_of_txn s (txn_view t) ≡ Some e
    → made_in w (as_call (txn_view t)) ≡ Err e
txn-refused s w t e h one = by (static_fault (txn_view t)) refl one
  where
    q : Path
    q = path_in s (txn_view t)

    by : (o : Option Refusal) → static_fault (txn_view t) ≡ o
        → option_or o (option_or (refusal_of_path s q)
        (refuse_if (not (is_empty (changes_of_path s q)) && is_spent s.revision) RevisionsSpent)) ≡ Some e
        → made_in w (as_call (txn_view t)) ≡ Err e
    by (Some f) is one = txn-static w t e (is ∙ one)
    by None is one = txn-told s w h t is
        ∙ refused_first (refusal_of_path s q) _ _ e (commit_spent s.revision (reply_of_path s q) w (changes_of_path s q) e) one

txn-takes_memory : (t : Txn) → takes_memory (as_call (txn_view t)) ≡ true
txn-takes_memory t = subst (λ (ops : Ops). takes_memory (as_call ops) ≡ true) (sym (txn_view-out t)) refl

-- the fault of its walk comes before all others
walk-first : (s : Store) (ops : Ops) (e : Refusal) → walk_fault 0 ops ≡ Some e → fault_of_txn s ops ≡ Some e
walk-first s ops e h = ap (λ o. option_or o (option_or (refusal_of_path s (path_in s ops))
    (refuse_if (not (is_empty (changes_of_path s (path_in s ops))) && is_spent s.revision) RevisionsSpent))) (faulty ops e h)

walk-clear : (ops : Ops) → static_fault ops ≡ None → walk_fault 0 ops ≡ None
unfolding static_fault
walk-clear ops h = or-none-first (walk_fault 0 ops) _ h

-- and of the transaction of a program, before memory is asked for
walk-told : (w : World) (t : Txn) → walk_fault 0 (txn_view t) ≡ fault_without_memory w (as_call (txn_view t))
walk-told w t = subst (λ (ops : Ops). walk_fault 0 ops ≡ fault_without_memory w (as_call ops)) (sym (txn_view-out t)) refl

-- what a transaction is refused for, where its check came to this and the refusal of the check is passed on
pub plan_refuses : (s : Store) (ops : Ops) (checked : Result (Unit {0}) Refusal) (e : Refusal) → OnOk checked (static_fault ops ≡ None)
    → IfErr checked (IsRefused ops) → IfErr checked (λ f. e ≡ f) → OnOk checked (IsRefusal e (fault_of_txn s ops))
    → IsFirst e (walk_fault 0 ops) (fault_of_txn s ops)
plan_refuses s ops (Ok u) e clear told same h = inr (walk-clear ops clear, h)
plan_refuses s ops (Err f) e clear (inr want) same h =
    inr (want.0, subst (λ r. IsRefusal r (fault_of_txn s ops)) (sym (same ∙ want.1)) tt)
plan_refuses s ops (Err f) e clear (inl told) same h = by (walk_fault 0 ops) refl
  where
    one : static_fault ops ≡ Some e
    one = told ∙ ap (λ r. Some r) (sym same)

    whole : fault_of_txn s ops ≡ Some e
    whole = ap (λ o. option_or o (option_or (refusal_of_path s (path_in s ops))
        (refuse_if (not (is_empty (changes_of_path s (path_in s ops))) && is_spent s.revision) RevisionsSpent))) one

    by : (o : Option Refusal) → walk_fault 0 ops ≡ o → IsFirst e (walk_fault 0 ops) (fault_of_txn s ops)
    by None is = inr (is, subst (IsRefusal e) (sym whole) (own_refusal e))
    by (Some g) is = inl (is ∙ sym (faulty ops g is) ∙ one)

-- where memory is wanting for what the operations that run add, nothing of this comes before
pub want_is_late : (s : Store) (ops : Ops) → fault_of_txn s ops ≡ None → IsFirst Memory (walk_fault 0 ops) (fault_of_txn s ops)
want_is_late s ops none = inr (walk-clear ops (or-none-first (static_fault ops) _ none), tt)

-- nor is anything refused before memory is asked for
pub want_is_behind : (checked : Result (Unit {0}) Refusal) (e : Refusal) (first : Option Refusal) → OnOk checked (first ≡ None)
    → OnOk checked (IsAtOnce e first)
want_is_behind (Ok u) e first none = told-none e first none
want_is_behind (Err f) e first none = tt

pub txn_refuses : (s new : CoreState) (t : Txn) (e : Refusal)
    → IsFirst e (walk_fault 0 (txn_view t)) (fault_of_txn s.store (txn_view t)) → new ≡ s → Refuses s new (as_call (txn_view t)) e
txn_refuses s new t e r same = record {
  first = λ w h f one. fault_told e f (walk_fault 0 (txn_view t)) (fault_of_txn s.store (txn_view t)) r (walk-told w t ∙ one);
  refused = λ w h. is_refused w (as_call (txn_view t)) e (fault_of_txn s.store (txn_view t))
      (first_or_later e (walk_fault 0 (txn_view t)) (fault_of_txn s.store (txn_view t)) (walk-first s.store (txn_view t) e) r)
      (λ f one. txn-refused s.store w t f h one);
  free = λ no. let bad : true ≡ false = sym (txn-takes_memory t) ∙ no in cc;
  kept = same;
}
