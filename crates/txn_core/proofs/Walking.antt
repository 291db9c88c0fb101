-- The walk over a transaction, step by step.
use Rattle.std.proofs.Common.{◌≡◌, ℕ, suc, ◌+◌, ◌<◌, ◌≤◌, List, [], ◌∷◌, length, drop, true, false, nat_le, Option, None, Some}
use Rattle.std.proofs.Common.{is_some, refl, sym, ◌∙◌, ap, subst, arith, rules, add-one, true≢false}
use Rattle.std.proofs.lemmas.List.{drop_all}
use Rattle.std.specs.Option.{option_or}
use Rattle.std.proofs.lemmas.Bool.Decides.{nat_tests}
use Rattle.kv_model.specs.declared.call.RangeQuery.{RangeQuery}
use Rattle.kv_model.specs.declared.call.PutRequest.{PutRequest}
use Rattle.kv_model.specs.declared.call.DeleteRequest.{DeleteRequest}
use Rattle.kv_model.specs.declared.call.Compare.{Compare}
use Rattle.kv_model.specs.declared.call.Operation.{Operation, fold-roll-Operation, out-Operation, roll-Operation, roll-out-Operation}
use Rattle.kv_model.specs.declared.call.Operation.{the_lemmas}
use Rattle.kv_model.specs.declared.call.Operation.TheVariants.{Range, Put, Delete}
use Rattle.kv_model.specs.declared.call.Operation.TheOpen.{Operation-F}
use Rattle.kv_model.specs.declared.call.Txn.{Txn, out-Txn, fold_out-Txn}
use Rattle.kv_model.specs.declared.refusal.Refusal.{Refusal}
use Rattle.kv_model.specs.declared.refusal.Refusal.TheVariants.{NoKey, TooDeep}
use Rattle.kv_model.specs.Calls.{Ops, then}
use Rattle.kv_model.specs.Commands.{op_step, txn_step, op_view, txn_view, ops_view}
use Rattle.kv_model.specs.Lists.{is_empty}
use Rattle.kv_model.specs.Ranges.{refuse_if}
use Rattle.txn_core.proofs.Elements.{At, from-here}
use Rattle.kv_model.specs.Txns.{most_depth, row_length, put_fault, compares_fault, size_fault, walk_fault}

-- ---- what the program's transactions are as rows

pub txn_view-out : (t : Txn) → txn_view t ≡ Ops.txn (out-Txn t).compare.items (ops_view (out-Txn t).success.items)
    (ops_view (out-Txn t).failure.items) Ops.no_ops
txn_view-out = fold_out-Txn Ops Ops op_step txn_step

row_length-then : (a b : Ops) → row_length (then a b) ≡ row_length a + row_length b
row_length-then Ops.no_ops b = omega arith
row_length-then (Ops.range q rest) b = omega (arith, row_length-then rest b)
row_length-then (Ops.put p rest) b = omega (arith, row_length-then rest b)
row_length-then (Ops.delete d rest) b = omega (arith, row_length-then rest b)
row_length-then (Ops.txn cs s f rest) b = omega (arith, row_length-then rest b)

row_length-roll : (x : Operation-F Operation Txn) → row_length (op_view (roll-Operation x)) ≡ 1
row_length-roll (Operation-F.Range q) = ap row_length (fold-roll-Operation Ops Ops op_step txn_step (Operation-F.Range q))
row_length-roll (Operation-F.Put p) = ap row_length (fold-roll-Operation Ops Ops op_step txn_step (Operation-F.Put p))
row_length-roll (Operation-F.Delete d) = ap row_length (fold-roll-Operation Ops Ops op_step txn_step (Operation-F.Delete d))
row_length-roll (Operation-F.Inner t) = ap row_length (fold-roll-Operation Ops Ops op_step txn_step (Operation-F.Inner t) ∙ txn_view-out t)

pub row_length-op : (o : Operation) → row_length (op_view o) ≡ 1
row_length-op o = subst (λ (p : Operation). row_length (op_view p) ≡ 1) (roll-out-Operation o) (row_length-roll (out-Operation o))

pub row_length-ops : (os : List Operation) → row_length (ops_view os) ≡ length os
row_length-ops [] = refl
row_length-ops (o ∷ os) = omega (arith, row_length-then (op_view o) (ops_view os), row_length-op o, row_length-ops os)

-- ---- the first of several faults

assoc : (a b c : Option Refusal) → option_or a (option_or b c) ≡ option_or (option_or a b) c
assoc None b c = refl
assoc (Some x) b c = refl

assoc-5 : (a b c d e r w : Option Refusal) → option_or a (option_or b (option_or c (option_or d (option_or e (option_or r w)))))
    ≡ option_or (option_or a (option_or b (option_or c (option_or d (option_or e r))))) w
assoc-5 (Some x) b c d e r w = refl
assoc-5 None (Some x) c d e r w = refl
assoc-5 None None (Some x) d e r w = refl
assoc-5 None None None (Some x) e r w = refl
assoc-5 None None None None e r w = assoc e r w

regroup : (a b c d : Option Refusal) → option_or a (option_or b (option_or c (option_or d None)))
    ≡ option_or (option_or a b) (option_or c d)
regroup (Some x) b c d = refl
regroup None (Some x) c d = refl
regroup None None (Some x) d = refl
regroup None None None (Some x) = refl
regroup None None None None = refl

or-some : (a b : Option Refusal) → is_some a ≡ true → option_or a b ≡ a
or-some (Some x) b h = refl
or-some None b h = absurd (true≢false (sym h))

or-none : (a b : Option Refusal) → is_some a ≡ false → option_or a b ≡ b
or-none (Some x) b h = absurd (true≢false h)
or-none None b h = refl

-- ---- the walk

pub walk_fault-then : (depth : ℕ) (a b : Ops) → walk_fault depth (then a b) ≡ option_or (walk_fault depth a) (walk_fault depth b)
unfolding walk_fault
walk_fault-then depth Ops.no_ops b = refl
walk_fault-then depth (Ops.range q rest) b =
    ap (option_or (refuse_if (is_empty q.range.key) NoKey)) (walk_fault-then depth rest b)
    ∙ assoc (refuse_if (is_empty q.range.key) NoKey) (walk_fault depth rest) (walk_fault depth b)
walk_fault-then depth (Ops.put p rest) b =
    ap (option_or (put_fault p)) (walk_fault-then depth rest b) ∙ assoc (put_fault p) (walk_fault depth rest) (walk_fault depth b)
walk_fault-then depth (Ops.delete d rest) b =
    ap (option_or (refuse_if (is_empty d.range.key) NoKey)) (walk_fault-then depth rest b)
    ∙ assoc (refuse_if (is_empty d.range.key) NoKey) (walk_fault depth rest) (walk_fault depth b)
walk_fault-then depth (Ops.txn cs s f rest) b =
    let deep = refuse_if (nat_le most_depth depth) TooDeep in
    let size = size_fault (length cs) (row_length s) (row_length f) in
    let first = walk_fault (suc depth) s in
    let second = walk_fault (suc depth) f in
    ap (λ r. option_or deep (option_or size (option_or (compares_fault cs) (option_or first (option_or second r)))))
    (walk_fault-then depth rest b)
    ∙ assoc-5 deep size (compares_fault cs) first second (walk_fault depth rest) (walk_fault depth b)

-- the fault of a transaction itself
abbrev pub own_fault : Txn → Option Refusal
own_fault t = option_or (size_fault (length (out-Txn t).compare.items) (length (out-Txn t).success.items)
    (length (out-Txn t).failure.items)) (compares_fault (out-Txn t).compare.items)

-- that of its branches
abbrev pub branches_fault : ℕ → Txn → Option Refusal
branches_fault depth t = option_or (walk_fault depth (ops_view (out-Txn t).success.items))
    (walk_fault depth (ops_view (out-Txn t).failure.items))

step : (depth : ℕ) (cs : List Compare) (s f : Ops) → walk_fault depth (Ops.txn cs s f Ops.no_ops)
    ≡ option_or (refuse_if (nat_le most_depth depth) TooDeep)
    (option_or (option_or (size_fault (length cs) (row_length s) (row_length f)) (compares_fault cs))
    (option_or (walk_fault (depth + 1) s) (walk_fault (depth + 1) f)))
unfolding walk_fault
step depth cs s f =
    ap (option_or (refuse_if (nat_le most_depth depth) TooDeep))
    (regroup (size_fault (length cs) (row_length s) (row_length f)) (compares_fault cs) (walk_fault (suc depth) s)
    (walk_fault (suc depth) f)
    ∙ ap (λ n. option_or (option_or (size_fault (length cs) (row_length s) (row_length f)) (compares_fault cs))
    (option_or (walk_fault n s) (walk_fault n f))) (sym (add-one depth)))

walk_fault-txn : (depth : ℕ) (t : Txn) → walk_fault depth (txn_view t)
    ≡ option_or (refuse_if (nat_le most_depth depth) TooDeep) (option_or (own_fault t) (branches_fault (depth + 1) t))
walk_fault-txn depth t =
    let cs = (out-Txn t).compare.items in
    let s = (out-Txn t).success.items in
    let f = (out-Txn t).failure.items in
    ap (walk_fault depth) (txn_view-out t) ∙ step depth cs (ops_view s) (ops_view f)
    ∙ (λ i. option_or (refuse_if (nat_le most_depth depth) TooDeep)
    (option_or (option_or (size_fault (length cs) (row_length-ops s i) (row_length-ops f i)) (compares_fault cs))
    (branches_fault (depth + 1) t)))

pub too_deep : (depth : ℕ) (t : Txn) → most_depth ≤ depth → Some TooDeep ≡ walk_fault depth (txn_view t)
too_deep depth t h =
    let deep : nat_le most_depth depth ≡ true = grind (arith, nat_tests) in
    sym (walk_fault-txn depth t ∙ ap (λ b. option_or (refuse_if b TooDeep) (option_or (own_fault t) (branches_fault (depth + 1) t))) deep)

not_deep : (depth : ℕ) (t : Txn) → depth < most_depth
    → walk_fault depth (txn_view t) ≡ option_or (own_fault t) (branches_fault (depth + 1) t)
not_deep depth t h =
    let low : nat_le most_depth depth ≡ false = grind (arith, nat_tests) in
    walk_fault-txn depth t ∙ ap (λ b. option_or (refuse_if b TooDeep) (option_or (own_fault t) (branches_fault (depth + 1) t))) low

pub own_first : (depth : ℕ) (t : Txn) (r : Option Refusal) → depth < most_depth → r ≡ own_fault t → is_some r ≡ true
    → r ≡ walk_fault depth (txn_view t)
own_first depth t r h e some = e ∙ sym (not_deep depth t h ∙ or-some (own_fault t) _ (sym (ap is_some e) ∙ some))

pub success_first : (depth : ℕ) (t : Txn) (r s : Option Refusal) → depth < most_depth → r ≡ own_fault t → is_some r ≡ false
    → s ≡ walk_fault (depth + 1) (ops_view (out-Txn t).success.items) → is_some s ≡ true → s ≡ walk_fault depth (txn_view t)
success_first depth t r s h e none f some = f ∙ sym (not_deep depth t h ∙ or-none (own_fault t) _ (sym (ap is_some e) ∙ none)
    ∙ or-some (walk_fault (depth + 1) (ops_view (out-Txn t).success.items)) _ (sym (ap is_some f) ∙ some))

pub failure_last : (depth : ℕ) (t : Txn) (r s u : Option Refusal) → depth < most_depth → r ≡ own_fault t → is_some r ≡ false
    → s ≡ walk_fault (depth + 1) (ops_view (out-Txn t).success.items) → is_some s ≡ false
    → u ≡ walk_fault (depth + 1) (ops_view (out-Txn t).failure.items) → u ≡ walk_fault depth (txn_view t)
failure_last depth t r s u h e none f none-2 g = g ∙ sym (not_deep depth t h ∙ or-none (own_fault t) _ (sym (ap is_some e) ∙ none)
    ∙ or-none (walk_fault (depth + 1) (ops_view (out-Txn t).success.items)) _ (sym (ap is_some f) ∙ none-2))

-- ---- one operation of a row

row_step : (depth : ℕ) (os : List Operation) (a : At os)
    → walk_fault depth (ops_view (drop a.index os))
    ≡ option_or (walk_fault depth (op_view a.value)) (walk_fault depth (ops_view (drop (a.index + 1) os)))
row_step depth os a = ap (λ (ps : List Operation). walk_fault depth (ops_view ps)) (from-here os a)
    ∙ walk_fault-then depth (op_view a.value) (ops_view (drop (a.index + 1) os))

pub row_fault-here : (depth : ℕ) (os : List Operation) (a : At os) (r : Option Refusal) → r ≡ walk_fault depth (op_view a.value)
    → is_some r ≡ true → r ≡ walk_fault depth (ops_view (drop a.index os))
row_fault-here depth os a r f some =
    f ∙ sym (row_step depth os a ∙ or-some (walk_fault depth (op_view a.value)) _ (sym (ap is_some f) ∙ some))

pub row_fault-later : (depth : ℕ) (os : List Operation) (a : At os) (r : Option Refusal) → r ≡ walk_fault depth (op_view a.value)
    → is_some r ≡ false → walk_fault depth (ops_view (drop (a.index + 1) os)) ≡ walk_fault depth (ops_view (drop a.index os))
row_fault-later depth os a r f none =
    sym (row_step depth os a ∙ or-none (walk_fault depth (op_view a.value)) _ (sym (ap is_some f) ∙ none))

pub row_fault-end : (depth : ℕ) (os : List Operation) (i : ℕ) → length os ≤ i → None ≡ walk_fault depth (ops_view (drop i os))
unfolding walk_fault
row_fault-end depth os i h = sym (ap (λ (ps : List Operation). walk_fault depth (ops_view ps)) (drop_all i os h))

-- ---- an operation

pub or-nothing : (a : Option Refusal) → option_or a None ≡ a
or-nothing None = refl
or-nothing (Some x) = refl

pub walk_fault-range : (depth : ℕ) (q : RangeQuery) → walk_fault depth (Ops.range q Ops.no_ops) ≡ refuse_if (is_empty q.range.key) NoKey
unfolding walk_fault
walk_fault-range depth q = or-nothing (refuse_if (is_empty q.range.key) NoKey)

pub walk_fault-put : (depth : ℕ) (p : PutRequest) → walk_fault depth (Ops.put p Ops.no_ops) ≡ put_fault p
unfolding walk_fault
walk_fault-put depth p = or-nothing (put_fault p)

pub walk_fault-delete : (depth : ℕ) (d : DeleteRequest)
    → walk_fault depth (Ops.delete d Ops.no_ops) ≡ refuse_if (is_empty d.range.key) NoKey
unfolding walk_fault
walk_fault-delete depth d = or-nothing (refuse_if (is_empty d.range.key) NoKey)

pub op_view-Range : (q : RangeQuery) → op_view (Range q) ≡ Ops.range q Ops.no_ops
op_view-Range q = search (rules, the_lemmas)

pub op_view-Put : (p : PutRequest) → op_view (Put p) ≡ Ops.put p Ops.no_ops
op_view-Put p = search (rules, the_lemmas)

pub op_view-Delete : (d : DeleteRequest) → op_view (Delete d) ≡ Ops.delete d Ops.no_ops
op_view-Delete d = search (rules, the_lemmas)
