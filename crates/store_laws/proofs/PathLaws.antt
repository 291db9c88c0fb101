-- What the walk over a transaction's operations finds of the path that runs.
use Rattle.std.proofs.Common.{◌≡◌, ◌≢◌, ℕ, suc, List, [], ◌++◌, length, Bool, true, false, ◌||◌, cond, Option, None, Some, sym, ◌∙◌}
use Rattle.std.proofs.Common.{ap}
use Rattle.std.specs.Prelude.{nat_le}
use Rattle.std.specs.Option.{option_or}
use Rattle.std.specs.List.{AllByRecursion, list_any, list_all}
use Rattle.std.proofs.lemmas.Bool.{or_parts}
use Rattle.kv_model.specs.declared.version.Version.{Version}
use Rattle.kv_model.specs.declared.call.PutRequest.{PutRequest}
use Rattle.kv_model.specs.declared.refusal.Refusal.{Refusal}
use Rattle.kv_model.specs.declared.refusal.Refusal.TheVariants.{NoKey, TooDeep, DuplicateKey}
use Rattle.kv_model.specs.Lists.{is_empty}
use Rattle.kv_model.specs.Ranges.{refuse_if}
use Rattle.kv_model.specs.Calls.{Ops}
use Rattle.kv_model.specs.Txns.{Path, Touch, collides, touches, any_collide, clashes, holds, path_of, put_fault, compares_fault, size_fault}
use Rattle.kv_model.specs.Txns.{row_length, most_depth, walk_fault, static_fault}
use Rattle.store_laws.specs.Plans.{path_touches}
use Rattle.store_laws.proofs.HistoryLaws.{AllByRecursion-split}
use Rattle.store_laws.proofs.PlaceLaws.{each-map, each-append}
use Rattle.store_laws.proofs.GoodLaws.{or-none, or-none-first, not-refused}
use Rattle.store_laws.proofs.TouchLaws.{IsClear}
use Rattle.store_laws.proofs.PlanLaws.{NoClash}
use Rattle.store_laws.proofs.PlanBatch.{HasKeys, none-any}

-- what holds of all that the operations may change holds of what the path changes
pub path-each : (P : Touch → Type 0) (vs : List Version) (now : ℕ) (ops : Ops) → AllByRecursion P (touches ops)
    → AllByRecursion P (path_touches (path_of vs now ops))
unfolding path_of
path-each P vs now Ops.no_ops h = tt
path-each P vs now (Ops.range q rest) h = path-each P vs now rest h
path-each P vs now (Ops.put p rest) h = (h.0, path-each P vs now rest h.1)
path-each P vs now (Ops.delete d rest) h = (h.0, path-each P vs now rest h.1)
path-each P vs now (Ops.txn cs s f rest) h =
    let first : AllByRecursion P (touches s ++ touches f) × AllByRecursion P (touches rest) = AllByRecursion-split P (touches s
    ++ touches f) (touches rest) h in
    let sides : AllByRecursion P (touches s) × AllByRecursion P (touches f) = AllByRecursion-split P (touches s) (touches f) first.0 in
    by (list_all (holds vs now) cs) (path-each P vs now s sides.0) (path-each P vs now f sides.1) (path-each P vs now rest first.1)
  where
    by : (b : Bool) → AllByRecursion P (path_touches (path_of vs now s)) → AllByRecursion P (path_touches (path_of vs now f))
        → AllByRecursion P (path_touches (path_of vs now rest))
        → AllByRecursion P (path_touches (cond b (Path.txn true (path_of vs now s) (path_of vs now rest)) (Path.txn false (path_of vs now f)
        (path_of vs now rest))))
    by true a b c = each-append P (path_touches (path_of vs now s)) (path_touches (path_of vs now rest)) a c
    by false a b c = each-append P (path_touches (path_of vs now f)) (path_touches (path_of vs now rest)) b c

no-collide : (ts us : List Touch) → any_collide ts us ≡ false → AllByRecursion (λ t. IsClear t us) ts
no-collide ts us e = each-map (λ t. list_any (collides t) us ≡ false) (λ t. IsClear t us) (λ t f. none-any (collides t) us f) ts
    (none-any (λ t. list_any (collides t) us) ts e)

-- where no operations clash, none of the path do
pub path-noclash : (vs : List Version) (now : ℕ) (ops : Ops) → clashes ops ≡ false → NoClash (path_of vs now ops)
unfolding path_of clashes
path-noclash vs now Ops.no_ops h = tt
path-noclash vs now (Ops.range q rest) h = path-noclash vs now rest h
path-noclash vs now (Ops.put p rest) h =
    let parts : (list_any (collides (Touch.one p.key)) (touches rest) ≡ false) × (clashes rest ≡ false) = or_parts _ _ h in (
      path-each (λ u. collides (Touch.one p.key) u ≡ false) vs now rest (none-any (collides (Touch.one p.key)) (touches rest) parts.0),
      path-noclash vs now rest parts.1,
    )
path-noclash vs now (Ops.delete d rest) h =
    let parts : (list_any (collides (Touch.each d.range)) (touches rest) ≡ false) × (clashes rest ≡ false) = or_parts _ _ h in (
      path-each (λ u. collides (Touch.each d.range) u ≡ false) vs now rest (none-any (collides (Touch.each d.range)) (touches rest) parts.0),
      path-noclash vs now rest parts.1,
    )
path-noclash vs now (Ops.txn cs s f rest) h =
    let third : (((any_collide (touches s ++ touches f) (touches rest) || clashes s) || clashes f) ≡ false)
    × (clashes rest ≡ false) = or_parts _ _ h in
    let second : ((any_collide (touches s ++ touches f) (touches rest) || clashes s) ≡ false) × (clashes f ≡ false) = or_parts _ _ third.0
    in
    let first : (any_collide (touches s ++ touches f) (touches rest) ≡ false) × (clashes s ≡ false) = or_parts _ _ second.0 in
    let clear : AllByRecursion (λ t. IsClear t (path_touches (path_of vs now rest))) (touches s ++ touches f)
    = each-map (λ t. IsClear t (touches rest)) (λ t. IsClear t (path_touches (path_of vs now rest))) (λ t c. path-each (λ u. collides t u
    ≡ false) vs now rest c) (touches s ++ touches f) (no-collide (touches s ++ touches f) (touches rest) first.0) in
    let sides : AllByRecursion (λ t. IsClear t (path_touches (path_of vs now rest))) (touches s)
    × AllByRecursion (λ t. IsClear t (path_touches (path_of vs now rest))) (touches f)
    = AllByRecursion-split (λ t. IsClear t (path_touches (path_of vs now rest))) (touches s) (touches f) clear in
    by (list_all (holds vs now) cs) sides.0 sides.1 (path-noclash vs now s first.1) (path-noclash vs now f second.1)
    (path-noclash vs now rest third.1)
  where
    by : (b : Bool) → AllByRecursion (λ t. IsClear t (path_touches (path_of vs now rest))) (touches s)
        → AllByRecursion (λ t. IsClear t (path_touches (path_of vs now rest))) (touches f)
        → NoClash (path_of vs now s) → NoClash (path_of vs now f) → NoClash (path_of vs now rest)
        → NoClash (cond b (Path.txn true (path_of vs now s) (path_of vs now rest)) (Path.txn false (path_of vs now f)
        (path_of vs now rest)))
    by true a b c d e = (path-each (λ t. IsClear t (path_touches (path_of vs now rest))) vs now s a, c, e)
    by false a b c d e = (path-each (λ t. IsClear t (path_touches (path_of vs now rest))) vs now f b, d, e)

put-key : (p : PutRequest) → put_fault p ≡ None → p.key ≢ []
put-key p e none =
    let empty : refuse_if (is_empty p.key) NoKey ≡ None = or-none-first (refuse_if (is_empty p.key) NoKey) _ e in
    let bad : Some NoKey ≡ None = ap (λ k. refuse_if (is_empty k) NoKey) (sym none) ∙ empty in cc

-- where the walk finds no fault each put of the path has a key
pub path-keys : (vs : List Version) (now depth : ℕ) (ops : Ops) → walk_fault depth ops ≡ None → HasKeys (path_of vs now ops)
unfolding path_of walk_fault
path-keys vs now depth Ops.no_ops h = tt
path-keys vs now depth (Ops.range q rest) h = path-keys vs now depth rest (or-none (refuse_if (is_empty q.range.key) NoKey)
    (walk_fault depth rest) h)
path-keys vs now depth (Ops.put p rest) h = (
  put-key p (or-none-first (put_fault p) (walk_fault depth rest) h),
  path-keys vs now depth rest (or-none (put_fault p) (walk_fault depth rest) h),
)
path-keys vs now depth (Ops.delete d rest) h = path-keys vs now depth rest (or-none (refuse_if (is_empty d.range.key) NoKey)
    (walk_fault depth rest) h)
path-keys vs now depth (Ops.txn cs s f rest) h =
    let inner : Option Refusal = option_or (walk_fault (suc depth) s) (option_or (walk_fault (suc depth) f) (walk_fault depth rest)) in
    let a : option_or (size_fault (length cs) (row_length s) (row_length f)) (option_or (compares_fault cs) inner)
    ≡ None = or-none (refuse_if (nat_le most_depth depth) TooDeep) _ h in
    let b : option_or (compares_fault cs) inner ≡ None = or-none (size_fault (length cs) (row_length s) (row_length f)) _ a in
    let c : inner ≡ None = or-none (compares_fault cs) _ b in
    let d : option_or (walk_fault (suc depth) f) (walk_fault depth rest) ≡ None = or-none (walk_fault (suc depth) s) _ c in
    by (list_all (holds vs now) cs) (path-keys vs now (suc depth) s (or-none-first (walk_fault (suc depth) s) _ c))
    (path-keys vs now (suc depth) f (or-none-first (walk_fault (suc depth) f) _ d))
    (path-keys vs now depth rest (or-none (walk_fault (suc depth) f) _ d))
  where
    by : (b : Bool) → HasKeys (path_of vs now s) → HasKeys (path_of vs now f) → HasKeys (path_of vs now rest)
        → HasKeys (cond b (Path.txn true (path_of vs now s) (path_of vs now rest)) (Path.txn false (path_of vs now f)
        (path_of vs now rest)))
    by true a b c = (a, c)
    by false a b c = (b, c)

-- what a static check that finds no fault says of the path
pub path-checked : (vs : List Version) (now : ℕ) (ops : Ops) → static_fault ops ≡ None → NoClash (path_of vs now ops)
    × HasKeys (path_of vs now ops)
unfolding static_fault
path-checked vs now ops h = (
  path-noclash vs now ops (not-refused (clashes ops) DuplicateKey (or-none (walk_fault 0 ops) (refuse_if (clashes ops) DuplicateKey) h)),
  path-keys vs now 0 ops (or-none-first (walk_fault 0 ops) (refuse_if (clashes ops) DuplicateKey) h),
)
