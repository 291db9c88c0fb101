-- The operations that run, one after another: the path they are, what they make, and their first refusal.
use Rattle.std.proofs.Common.{◌≡◌, ◌⊎◌, inl, inr, ℕ, ◌+◌, ◌≤◌, List, [], ◌∷◌, ◌++◌, length, map, drop, Bool, true, false}
use Rattle.std.proofs.Common.{cond, Option, None, Some, refl, sym, ◌∙◌, ap, subst, rules}
use Rattle.std.proofs.lemmas.List.{drop_all}
use Rattle.std.specs.Prelude.{MatchBool, ⊤}
use Rattle.std.specs.Option.{option_or}
use Rattle.std.specs.List.{list_all}
use Rattle.kv_model.specs.declared.call.RangeQuery.{RangeQuery}
use Rattle.kv_model.specs.declared.call.PutRequest.{PutRequest}
use Rattle.kv_model.specs.declared.call.DeleteRequest.{DeleteRequest}
use Rattle.kv_model.specs.declared.call.Compare.{Compare}
use Rattle.kv_model.specs.declared.call.Operation.{Operation, the_lemmas}
use Rattle.kv_model.specs.declared.call.Operation.TheVariants.{Range, Put, Delete, Inner}
use Rattle.kv_model.specs.declared.call.Txn.{Txn, out-Txn}
use Rattle.kv_model.specs.declared.refusal.Refusal.{Refusal}
use Rattle.kv_model.specs.declared.refusal.Refusal.TheVariants.{Memory}
use Rattle.kv_model.specs.declared.version.Version.{Version}
use Rattle.kv_model.specs.Calls.{Ops, then}
use Rattle.kv_model.specs.Commands.{op_view, txn_view, ops_view}
use Rattle.kv_model.specs.Leases.{Lease}
use Rattle.kv_model.specs.Txns.{Path, path_of, holds}
use Rattle.range_view.specs.Stored.{Viewed}
use Rattle.txn_core.specs.declared.step.Step.{Step}
use Rattle.txn_core.specs.Planning.{made, refusal_of, is_memory, IsFault, IsRefusal, path_in, versions_made_in, refusal_in}
use Rattle.txn_core.specs.Steps.{in_row, step_view}
use Rattle.txn_core.proofs.Walking.{or-nothing, txn_view-out, op_view-Range, op_view-Put, op_view-Delete}
use Rattle.txn_core.proofs.Elements.{At, from-here}

-- ---- refusals

pub refused-as : (e : Refusal) (a : Option Refusal) → a ≡ Some e → IsRefusal e a
refused-as e a h = by (is_memory e)
  where
    by : (m : Bool) → MatchBool m ⊤ (a ≡ Some e)
    by true = tt
    by false = h

pub refused-by : (e : Refusal) (a : Option Refusal) → IsFault e a → IsRefusal e a
refused-by e a (inl h) = refused-as e a h
refused-by e a (inr h) = subst (λ r. IsRefusal r a) (sym h.1) tt

pub memory-or : (e : Refusal) (a : Option Refusal) → IsRefusal e a → (e ≡ Memory) ⊎ (a ≡ Some e)
memory-or e a h = by (is_memory e) refl h
  where
    memory-is : (r : Refusal) → is_memory r ≡ true → r ≡ Memory
    memory-is Memory g = refl
    memory-is _ g = cc

    by : (m : Bool) → is_memory e ≡ m → MatchBool m ⊤ (a ≡ Some e) → (e ≡ Memory) ⊎ (a ≡ Some e)
    by true g t = inl (memory-is e g)
    by false g t = inr t

pub refused-first : (e : Refusal) (a b : Option Refusal) → IsRefusal e a → IsRefusal e (option_or a b)
refused-first e (Some x) b h = h
refused-first e None b h = by (is_memory e) h
  where
    by : (m : Bool) → MatchBool m ⊤ (None ≡ Some e) → MatchBool m ⊤ (b ≡ Some e)
    by true g = tt
    by false g = cc

pub none-first : (a b : Option Refusal) → a ≡ None → option_or a b ≡ b
none-first a b e = ap (λ o. option_or o b) e

-- ---- one operation

pub op_view-Inner : (t : Txn) → op_view (Inner t) ≡ txn_view t
op_view-Inner t = search (rules, the_lemmas)

pub path-range : (v : Viewed) (q : RangeQuery) (rest : Ops) → path_in v (then (op_view (Range q)) rest) ≡ Path.range q (path_in v rest)
unfolding path_of
path-range v q rest = ap (λ o. path_in v (then o rest)) (op_view-Range q)

pub path-put : (v : Viewed) (p : PutRequest) (rest : Ops) → path_in v (then (op_view (Put p)) rest) ≡ Path.put p (path_in v rest)
unfolding path_of
path-put v p rest = ap (λ o. path_in v (then o rest)) (op_view-Put p)

pub path-delete : (v : Viewed) (d : DeleteRequest) (rest : Ops)
    → path_in v (then (op_view (Delete d)) rest) ≡ Path.delete d (path_in v rest)
unfolding path_of
path-delete v d rest = ap (λ o. path_in v (then o rest)) (op_view-Delete d)

-- ---- a transaction

-- the path of a transaction, with others behind it
abbrev pub behind : Path → Path → Path
behind Path.end r = Path.end
behind (Path.range q rest) r = Path.end
behind (Path.put p rest) r = Path.end
behind (Path.delete d rest) r = Path.end
behind (Path.txn b inner rest) r = Path.txn b inner r

path-behind : (v : Viewed) (cs : List Compare) (s f rest : Ops)
    → path_in v (Ops.txn cs s f rest) ≡ behind (path_in v (Ops.txn cs s f Ops.no_ops)) (path_in v rest)
unfolding path_of
path-behind v cs s f rest = by (list_all (holds v.versions v.revision) cs)
  where
    by : (b : Bool) → cond b (Path.txn true (path_in v s) (path_in v rest)) (Path.txn false (path_in v f) (path_in v rest))
        ≡ behind (cond b (Path.txn true (path_in v s) Path.end) (Path.txn false (path_in v f) Path.end)) (path_in v rest)
    by true = refl
    by false = refl

-- the operation that a transaction is, as a row
pub inner-row : (t : Txn) (rest : Ops) → then (op_view (Inner t)) rest
    ≡ Ops.txn (out-Txn t).compare.items (ops_view (out-Txn t).success.items) (ops_view (out-Txn t).failure.items) rest
inner-row t rest = ap (λ o. then o rest) (op_view-Inner t ∙ txn_view-out t)

inner-behind : (v : Viewed) (t : Txn) (rest : Ops)
    → path_in v (then (op_view (Inner t)) rest) ≡ behind (path_in v (txn_view t)) (path_in v rest)
inner-behind v t rest =
    ap (path_in v) (inner-row t rest)
    ∙ path-behind v (out-Txn t).compare.items (ops_view (out-Txn t).success.items) (ops_view (out-Txn t).failure.items) rest
    ∙ ap (λ o. behind (path_in v o) (path_in v rest)) (sym (txn_view-out t))

pub path-inner : (v : Viewed) (t : Txn) (b : Bool) (inner : Path) → Path.txn b inner Path.end ≡ path_in v (txn_view t)
    → (rest : Ops) → path_in v (then (op_view (Inner t)) rest) ≡ Path.txn b inner (path_in v rest)
path-inner v t b inner e rest = inner-behind v t rest ∙ ap (λ q. behind q (path_in v rest)) (sym e)

-- what refuses a transaction refuses it with others behind it
behind-refused : (v : Viewed) (ls : List Lease) (e : Refusal) (cs : List Compare) (s f : Ops) (r : Path)
    → IsRefusal e (refusal_in v ls (path_in v (Ops.txn cs s f Ops.no_ops)))
    → IsRefusal e (refusal_in v ls (behind (path_in v (Ops.txn cs s f Ops.no_ops)) r))
unfolding path_of refusal_of
behind-refused v ls e cs s f r = by (list_all (holds v.versions v.revision) cs)
  where
    by : (b : Bool) → IsRefusal e (refusal_in v ls (cond b (Path.txn true (path_in v s) Path.end) (Path.txn false (path_in v f) Path.end)))
        → IsRefusal e (refusal_in v ls (behind (cond b (Path.txn true (path_in v s) Path.end) (Path.txn false (path_in v f) Path.end)) r))
    by true h = refused-first e (refusal_in v ls (path_in v s)) (refusal_in v ls r)
        (subst (IsRefusal e) (or-nothing (refusal_in v ls (path_in v s))) h)
    by false h = refused-first e (refusal_in v ls (path_in v f)) (refusal_in v ls r)
        (subst (IsRefusal e) (or-nothing (refusal_in v ls (path_in v f))) h)

pub refused-inner : (v : Viewed) (ls : List Lease) (e : Refusal) (t : Txn) → IsRefusal e (refusal_in v ls (path_in v (txn_view t)))
    → (rest : Ops) → IsRefusal e (refusal_in v ls (path_in v (then (op_view (Inner t)) rest)))
refused-inner v ls e t h rest =
    subst (λ q. IsRefusal e (refusal_in v ls q)) (sym (inner-behind v t rest))
    (subst (λ o. IsRefusal e (refusal_in v ls (behind (path_in v o) (path_in v rest)))) (sym (txn_view-out t))
    (behind-refused v ls e (out-Txn t).compare.items (ops_view (out-Txn t).success.items) (ops_view (out-Txn t).failure.items)
    (path_in v rest)
    (subst (λ o. IsRefusal e (refusal_in v ls (path_in v o))) (txn_view-out t) h)))

-- the branch of a transaction
abbrev pub branch_of : Txn → Bool → Ops
branch_of t b = cond b (ops_view (out-Txn t).success.items) (ops_view (out-Txn t).failure.items)

txn-chosen : (v : Viewed) (cs : List Compare) (s f : Ops) → path_in v (Ops.txn cs s f Ops.no_ops)
    ≡ Path.txn (list_all (holds v.versions v.revision) cs) (path_in v (cond (list_all (holds v.versions v.revision) cs) s f)) Path.end
unfolding path_of
txn-chosen v cs s f = by (list_all (holds v.versions v.revision) cs)
  where
    by : (b : Bool) → cond b (Path.txn true (path_in v s) Path.end) (Path.txn false (path_in v f) Path.end)
        ≡ Path.txn b (path_in v (cond b s f)) Path.end
    by true = refl
    by false = refl

path-txn : (v : Viewed) (t : Txn) (b : Bool) → b ≡ list_all (holds v.versions v.revision) (out-Txn t).compare.items
    → path_in v (txn_view t) ≡ Path.txn b (path_in v (branch_of t b)) Path.end
path-txn v t b e =
    ap (path_in v) (txn_view-out t) ∙ txn-chosen v (out-Txn t).compare.items (ops_view (out-Txn t).success.items)
    (ops_view (out-Txn t).failure.items)
    ∙ ap (λ c. Path.txn c (path_in v (branch_of t c)) Path.end) (sym e)

pub ran : (v : Viewed) (t : Txn) (b : Bool) (q : Path) → b ≡ list_all (holds v.versions v.revision) (out-Txn t).compare.items
    → q ≡ path_in v (branch_of t b) → Path.txn b q Path.end ≡ path_in v (txn_view t)
ran v t b q e f = ap (λ p. Path.txn b p Path.end) f ∙ sym (path-txn v t b e)

pub not_run : (v : Viewed) (ls : List Lease) (t : Txn) (b : Bool) (e : Refusal)
    → b ≡ list_all (holds v.versions v.revision) (out-Txn t).compare.items
    → IsRefusal e (refusal_in v ls (path_in v (branch_of t b))) → IsRefusal e (refusal_in v ls (path_in v (txn_view t)))
unfolding refusal_of
not_run v ls t b e h g =
    subst (λ q. IsRefusal e (refusal_in v ls q)) (sym (path-txn v t b h))
    (refused-first e (refusal_in v ls (path_in v (branch_of t b))) None g)

-- a path of a transaction alone
pub made-txn : (v : Viewed) (ws : List Version) (b : Bool) (q : Path) → versions_made_in v ws (Path.txn b q Path.end) ≡ versions_made_in v ws q
unfolding made
made-txn v ws b q = refl

pub refusal-txn : (v : Viewed) (ls : List Lease) (b : Bool) (q : Path) → refusal_in v ls (Path.txn b q Path.end) ≡ refusal_in v ls q
unfolding refusal_of
refusal-txn v ls b q = or-nothing (refusal_in v ls q)

-- ---- a row

pub row-split : (os : List Operation) (a : At os) → ops_view (drop a.index os) ≡ then (op_view a.value) (ops_view (drop (a.index + 1) os))
row-split os a = ap ops_view (from-here os a)

pub row-end : (v : Viewed) (os : List Operation) (i : ℕ) → length os ≤ i → path_in v (ops_view (drop i os)) ≡ Path.end
unfolding path_of
row-end v os i h = ap (λ ps. path_in v (ops_view ps)) (drop_all i os h)

pub in_row-more : (ss : List Step) (s : Step) (q : Path)
    → in_row (map step_view (ss ++ s ∷ [])) q ≡ in_row (map step_view ss) (step_view s q)
in_row-more [] s q = refl
in_row-more (t ∷ ss) s q = ap (step_view t) (in_row-more ss s q)
