-- What operations are refused for before memory is asked for.
use Rattle.std.proofs.Common.{◌≡◌, ◌≢◌, ◌⊎◌, inl, inr, ℕ, ◌+◌, List, [], ◌∷◌, drop, Bool, true, false, cond, Option, None, Some, refl, sym}
use Rattle.std.proofs.Common.{◌∙◌, ap, subst}
use Rattle.std.specs.Option.{option_or}
use Rattle.std.specs.List.{list_all}
use Rattle.kv_model.specs.declared.call.Compare.{Compare}
use Rattle.kv_model.specs.declared.call.DeleteRequest.{DeleteRequest}
use Rattle.kv_model.specs.declared.call.Operation.{Operation}
use Rattle.kv_model.specs.declared.call.Operation.TheVariants.{Range, Put, Delete, Inner}
use Rattle.kv_model.specs.declared.call.PutRequest.{PutRequest}
use Rattle.kv_model.specs.declared.call.RangeQuery.{RangeQuery}
use Rattle.kv_model.specs.declared.call.Txn.{Txn, out-Txn}
use Rattle.kv_model.specs.declared.refusal.Refusal.{Refusal}
use Rattle.kv_model.specs.Calls.{Ops, then}
use Rattle.kv_model.specs.Commands.{op_view, txn_view, ops_view}
use Rattle.kv_model.specs.History.{value_at}
use Rattle.kv_model.specs.Leases.{Lease, is_granted}
use Rattle.kv_model.specs.Ranges.{revision_refusal}
use Rattle.kv_model.specs.Txns.{Path, path_of, holds, row_length}
use Rattle.range_view.specs.Stored.{Viewed}
use Rattle.txn_core.specs.declared.step.Step.{Step}
use Rattle.txn_core.specs.KeyWrites.{held_refusal}
use Rattle.txn_core.specs.Planning.{IsFault, IsAtOnce, at_once, at_once_in, path_in, refusal_in, refusal_of}
use Rattle.txn_core.specs.Steps.{step_view}
use Rattle.txn_core.proofs.Elements.{At}
use Rattle.txn_core.proofs.Running.{branch_of, inner-row, row-split}
use Rattle.txn_core.proofs.Walking.{row_length-op, txn_view-out, op_view-Range, op_view-Put, op_view-Delete}

-- ---- what is told

pub told-one : (e : Refusal) (o : Option Refusal) → o ≡ Some e → IsAtOnce e o
told-one e o is = subst (IsAtOnce e) (sym is) refl

pub told-none : (e : Refusal) (o : Option Refusal) → o ≡ None → IsAtOnce e o
told-none e o is = subst (IsAtOnce e) (sym is) tt

pub told-fault : (e : Refusal) (o : Option Refusal) → IsFault e o → IsAtOnce e o
told-fault e o (inl is) = told-one e o is
told-fault e o (inr want) = told-none e o want.0

-- ---- it is the first refusal

pub first-refuses : (v : Viewed) (ls : List Lease) (ops : Ops) (f : Refusal) → at_once_in v ls ops ≡ Some f → refusal_in v ls (path_in v ops) ≡ Some f
unfolding at_once path_of refusal_of
first-refuses v ls Ops.no_ops f is = cc
first-refuses v ls (Ops.range q rest) f is = ap (λ o. option_or o (refusal_in v ls (path_in v rest))) is
first-refuses v ls (Ops.put p rest) f is = ap (λ o. option_or o (refusal_in v ls (path_in v rest))) is
first-refuses v ls (Ops.delete d rest) f is = cc
first-refuses v ls (Ops.txn [] s g rest) f is = ap (λ o. option_or o (refusal_in v ls (path_in v rest))) (first-refuses v ls s f is)
first-refuses v ls (Ops.txn (c ∷ cs) s g rest) f is = cc

-- so there is none where nothing is refused
pub none-refused : (v : Viewed) (ls : List Lease) (ops : Ops) → refusal_in v ls (path_in v ops) ≡ None → at_once_in v ls ops ≡ None
none-refused v ls ops fine = by (at_once_in v ls ops) refl
  where
    by : (o : Option Refusal) → at_once_in v ls ops ≡ o → at_once_in v ls ops ≡ None
    by None is = is
    by (Some f) is = let bad : Some f ≡ None = sym (first-refuses v ls ops f is) ∙ fine in cc

-- ---- one operation

-- it is that of the first operation
alone : (v : Viewed) (ls : List Lease) (a rest : Ops) → row_length a ≡ 1 → at_once_in v ls (then a rest) ≡ at_once_in v ls (then a Ops.no_ops)
unfolding at_once
alone v ls Ops.no_ops rest one = cc
alone v ls (Ops.range q more) rest one = refl
alone v ls (Ops.put p more) rest one = refl
alone v ls (Ops.delete d more) rest one = refl
alone v ls (Ops.txn [] s f more) rest one = refl
alone v ls (Ops.txn (c ∷ cs) s f more) rest one = refl

pub of-range : (v : Viewed) (ls : List Lease) (q : RangeQuery) (rest : Ops)
    → at_once_in v ls (then (op_view (Range q)) rest) ≡ revision_refusal v.compacted v.revision q.revision
unfolding at_once
of-range v ls q rest = ap (λ o. at_once_in v ls (then o rest)) (op_view-Range q)

pub of-put : (v : Viewed) (ls : List Lease) (p : PutRequest) (rest : Ops)
    → at_once_in v ls (then (op_view (Put p)) rest) ≡ held_refusal (is_granted ls) p (value_at v.versions v.place p.key)
unfolding at_once
of-put v ls p rest = ap (λ o. at_once_in v ls (then o rest)) (op_view-Put p)

pub of-delete : (v : Viewed) (ls : List Lease) (d : DeleteRequest) (rest : Ops) → at_once_in v ls (then (op_view (Delete d)) rest) ≡ None
unfolding at_once
of-delete v ls d rest = ap (λ o. at_once_in v ls (then o rest)) (op_view-Delete d)

txn-alone : (v : Viewed) (ls : List Lease) (cs : List Compare) (s f rest : Ops)
    → at_once_in v ls (Ops.txn cs s f rest) ≡ at_once_in v ls (Ops.txn cs s f Ops.no_ops)
unfolding at_once
txn-alone v ls [] s f rest = refl
txn-alone v ls (c ∷ cs) s f rest = refl

pub of-inner : (v : Viewed) (ls : List Lease) (t : Txn) (rest : Ops)
    → at_once_in v ls (then (op_view (Inner t)) rest) ≡ at_once_in v ls (txn_view t)
of-inner v ls t rest =
    ap (at_once_in v ls) (inner-row t rest)
    ∙ txn-alone v ls (out-Txn t).compare.items (ops_view (out-Txn t).success.items) (ops_view (out-Txn t).failure.items) rest
    ∙ ap (at_once_in v ls) (sym (txn_view-out t))

-- one that ran was not refused
pub passed : (v : Viewed) (ls : List Lease) (o : Operation) (s : Step) (rest : Ops)
    → ((rest : Ops) → path_in v (then (op_view o) rest) ≡ step_view s (path_in v rest))
    → ((rest : Path) → refusal_in v ls (step_view s rest) ≡ refusal_in v ls rest) → at_once_in v ls (then (op_view o) rest) ≡ None
unfolding path_of refusal_of
passed v ls o s rest path fine =
    alone v ls (op_view o) rest (row_length-op o)
    ∙ none-refused v ls (then (op_view o) Ops.no_ops) (ap (refusal_in v ls) (path Ops.no_ops) ∙ fine (path_in v Ops.no_ops))

-- ---- a row

-- no operation has run, or the first of them was not refused
abbrev pub IsPast : ℕ → Option Refusal → Type 0
IsPast ran o = (ran ≡ 0) ⊎ (o ≡ None)

whole : (os : List Operation) (i : ℕ) → i ≡ 0 → ops_view (drop i os) ≡ ops_view os
whole os i none = ap (λ n. ops_view (drop n os)) none

pub past : (v : Viewed) (ls : List Lease) (os row : List Operation) (a : At os) (s : Step) → os ≡ row
    → ((rest : Ops) → path_in v (then (op_view a.value) rest) ≡ step_view s (path_in v rest))
    → ((rest : Path) → refusal_in v ls (step_view s rest) ≡ refusal_in v ls rest)
    → IsPast a.index (at_once_in v ls (ops_view row)) → at_once_in v ls (ops_view row) ≡ None
past v ls os row a s same path fine (inr none) = none
past v ls os row a s same path fine (inl first) =
    ap (λ xs. at_once_in v ls (ops_view xs)) (sym same)
    ∙ ap (at_once_in v ls) (sym (whole os a.index first) ∙ row-split os a)
    ∙ passed v ls a.value s (ops_view (drop (a.index + 1) os)) path fine

pub told-row : (v : Viewed) (ls : List Lease) (os row : List Operation) (a : At os) (e : Refusal) → os ≡ row
    → ((rest : Ops) → IsAtOnce e (at_once_in v ls (then (op_view a.value) rest)))
    → IsPast a.index (at_once_in v ls (ops_view row)) → IsAtOnce e (at_once_in v ls (ops_view row))
told-row v ls os row a e same told (inr none) = told-none e _ none
told-row v ls os row a e same told (inl first) =
    subst (λ xs. IsAtOnce e (at_once_in v ls (ops_view xs))) same
    (subst (λ o. IsAtOnce e (at_once_in v ls o)) (sym (row-split os a) ∙ whole os a.index first)
    (told (ops_view (drop (a.index + 1) os))))

-- ---- a transaction

late : (v : Viewed) (ls : List Lease) (cs : List Compare) (s f : Ops) → cs ≢ [] → at_once_in v ls (Ops.txn cs s f Ops.no_ops) ≡ None
unfolding at_once
late v ls [] s f some = absurd (some refl)
late v ls (c ∷ cs) s f some = refl

-- one with compares asks for memory first
pub txn-late : (v : Viewed) (ls : List Lease) (t : Txn) (e : Refusal) → (out-Txn t).compare.items ≢ [] → IsAtOnce e (at_once_in v ls (txn_view t))
txn-late v ls t e some = told-none e _ (ap (at_once_in v ls) (txn_view-out t)
    ∙ late v ls (out-Txn t).compare.items (ops_view (out-Txn t).success.items) (ops_view (out-Txn t).failure.items) some)

chosen : (v : Viewed) (ls : List Lease) (cs : List Compare) (s f : Ops) (b : Bool) (e : Refusal)
    → b ≡ list_all (holds v.versions v.revision) cs → IsAtOnce e (at_once_in v ls (cond b s f)) → IsAtOnce e (at_once_in v ls (Ops.txn cs s f Ops.no_ops))
unfolding at_once
chosen v ls [] s f true e is told = told
chosen v ls [] s f false e is told = cc
chosen v ls (c ∷ cs) s f b e is told = tt

pub told-txn : (v : Viewed) (ls : List Lease) (t : Txn) (b : Bool) (e : Refusal)
    → b ≡ list_all (holds v.versions v.revision) (out-Txn t).compare.items
    → IsAtOnce e (at_once_in v ls (branch_of t b)) → IsAtOnce e (at_once_in v ls (txn_view t))
told-txn v ls t b e is told =
    subst (λ o. IsAtOnce e (at_once_in v ls o)) (sym (txn_view-out t))
    (chosen v ls (out-Txn t).compare.items (ops_view (out-Txn t).success.items) (ops_view (out-Txn t).failure.items) b e is told)
