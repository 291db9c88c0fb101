-- Lists that hold the same of every key have the same compares, paths, changes and refusals.
use Rattle.std.proofs.Common.{◌≡◌, ℕ, suc, ◌+◌, ℤ, List, [], ◌∷◌, ◌++◌, length, Bool, true, false, ◌&&◌, ◌||◌, cond, refl, sym, ◌∙◌, ap}
use Rattle.std.specs.Prelude.{is_none}
use Rattle.std.specs.Option.{option_or}
use Rattle.std.specs.List.{list_all}
use Rattle.kv_model.specs.declared.version.Version.{Version}
use Rattle.kv_model.specs.declared.call.PutRequest.{PutRequest}
use Rattle.kv_model.specs.declared.call.DeleteRequest.{DeleteRequest}
use Rattle.kv_model.specs.declared.call.Compare.{Compare}
use Rattle.kv_model.specs.declared.refusal.Refusal.TheVariants.{KeyMissing}
use Rattle.kv_model.specs.History.{Mutation, value_at, value_now, end_of}
use Rattle.kv_model.specs.Ranges.{keys_of, revision_refusal, refuse_if}
use Rattle.kv_model.specs.Calls.{Ops}
use Rattle.kv_model.specs.Txns.{Path, holds, holds_of, path_of, extend, extend_all, added_by, put_change, put_action, put_refusal}
use Rattle.kv_model.specs.Txns.{put_lease_refusal, delete_changes, deletes_of, effect, run_refusal}
use Rattle.store_laws.proofs.KeyLaws.{live-same, live_now-same}
use Rattle.store_laws.proofs.PlaceLaws.{value_now-grows}
use Rattle.store_laws.proofs.BatchLaws.{extend_all-added, added_by-same}

-- what is held of every key is the same
abbrev pub HoldsSame : List Version → List Version → Type 0
HoldsSame vs ws = (k : List ℕ) → value_now vs k ≡ value_now ws k

pub extend_all-same : (vs ws : List Version) (us : List Mutation) → HoldsSame vs ws → HoldsSame (extend_all vs us) (extend_all ws us)
extend_all-same vs ws us h k =
    ap (λ xs. value_now xs k) (extend_all-added vs us ∙ ap (λ t. vs ++ t) (added_by-same vs ws us h))
    ∙ value_now-grows vs ws (added_by ws us) k (h k)
    ∙ sym (ap (λ xs. value_now xs k) (extend_all-added ws us))

pub put_change-same : (vs ws : List Version) (main sub : ℕ) (p : PutRequest) → HoldsSame vs ws → put_change vs main sub p
    ≡ put_change ws main sub p
put_change-same vs ws main sub p h = λ i. record { rev = record { main = main; sub = sub }; key = p.key; action = put_action p (h p.key i) }

pub delete_changes-same : (vs ws : List Version) (main sub : ℕ) (d : DeleteRequest) → HoldsSame vs ws → delete_changes vs main sub d
    ≡ delete_changes ws main sub d
delete_changes-same vs ws main sub d h = ap (λ kvs. deletes_of main sub (keys_of kvs)) (live_now-same vs ws d.range h)

pub effect-same : (vs ws : List Version) (main sub : ℕ) (q : Path) → HoldsSame vs ws → effect vs main sub q ≡ effect ws main sub q
unfolding effect
effect-same vs ws main sub Path.end h = refl
effect-same vs ws main sub (Path.range r rest) h = effect-same vs ws main sub rest h
effect-same vs ws main sub (Path.put p rest) h =
    let m : Mutation = put_change ws main sub p in
    ap (λ (n : Mutation). n ∷ effect (extend vs n) main (suc sub) rest) (put_change-same vs ws main sub p h)
    ∙ ap (λ us. m ∷ us) (effect-same (extend vs m) (extend ws m) main (suc sub) rest (extend_all-same vs ws (m ∷ []) h))
effect-same vs ws main sub (Path.delete d rest) h =
    let ms : List Mutation = delete_changes ws main sub d in
    ap (λ ns. ns ++ effect (extend_all vs ns) main (sub + length ns) rest) (delete_changes-same vs ws main sub d h)
    ∙ ap (λ us. ms ++ us) (effect-same (extend_all vs ms) (extend_all ws ms) main (sub + length ms) rest (extend_all-same vs ws ms h))
effect-same vs ws main sub (Path.txn b inner rest) h =
    let ms : List Mutation = effect ws main sub inner in
    ap (λ ns. ns ++ effect (extend_all vs ns) main (sub + length ns) rest) (effect-same vs ws main sub inner h)
    ∙ ap (λ us. ms ++ us) (effect-same (extend_all vs ms) (extend_all ws ms) main (sub + length ms) rest (extend_all-same vs ws ms h))

pub put_refusal-same : (granted : ℤ → Bool) (vs ws : List Version) (p : PutRequest) → HoldsSame vs ws → put_refusal granted vs p
    ≡ put_refusal granted ws p
put_refusal-same granted vs ws p h = λ i. option_or (refuse_if ((p.ignore_value || p.ignore_lease) && is_none (h p.key i)) KeyMissing)
    (put_lease_refusal granted p)

pub run_refusal-same : (granted : ℤ → Bool) (c now : ℕ) (vs ws : List Version) (sub : ℕ) (q : Path) → HoldsSame vs ws
    → run_refusal granted c now vs sub q ≡ run_refusal granted c now ws sub q
unfolding run_refusal
run_refusal-same granted c now vs ws sub Path.end h = refl
run_refusal-same granted c now vs ws sub (Path.range r rest) h = ap (option_or (revision_refusal c now r.revision))
    (run_refusal-same granted c now vs ws sub rest h)
run_refusal-same granted c now vs ws sub (Path.put p rest) h =
    let m : Mutation = put_change ws (now + 1) sub p in
    (λ i. option_or (put_refusal-same granted vs ws p h i) (run_refusal granted c now (extend vs (put_change-same vs ws (now + 1) sub p h
    i)) (suc sub) rest))
    ∙ ap (option_or (put_refusal granted ws p)) (run_refusal-same granted c now (extend vs m) (extend ws m) (suc sub) rest
    (extend_all-same vs ws (m ∷ []) h))
run_refusal-same granted c now vs ws sub (Path.delete d rest) h =
    let ms : List Mutation = delete_changes ws (now + 1) sub d in
    ap (λ ns. run_refusal granted c now (extend_all vs ns) (sub + length ns) rest) (delete_changes-same vs ws (now + 1) sub d h)
    ∙ run_refusal-same granted c now (extend_all vs ms) (extend_all ws ms) (sub + length ms) rest (extend_all-same vs ws ms h)
run_refusal-same granted c now vs ws sub (Path.txn b inner rest) h =
    let ms : List Mutation = effect ws (now + 1) sub inner in
    (λ i. option_or (run_refusal-same granted c now vs ws sub inner h i) (run_refusal granted c now
    (extend_all vs (effect-same vs ws (now + 1) sub inner h i)) (sub + length (effect-same vs ws (now + 1) sub inner h i)) rest))
    ∙ ap (option_or (run_refusal granted c now ws sub inner)) (run_refusal-same granted c now (extend_all vs ms) (extend_all ws ms)
    (sub + length ms) rest (extend_all-same vs ws ms h))

-- ---- compares and paths, decided at a place

list_all-same : {X : Type 0} (p q : X → Bool) → ((x : X) → p x ≡ q x) → (xs : List X) → list_all p xs ≡ list_all q xs
list_all-same p q h [] = refl
list_all-same p q h (x ∷ xs) = λ i. h x i && list_all-same p q h xs i

pub holds-same : (vs ws : List Version) (now : ℕ) (c : Compare) → ((k : List ℕ) → value_at vs (end_of now) k ≡ value_at ws (end_of now) k)
    → holds vs now c ≡ holds ws now c
holds-same vs ws now c h = ap (holds_of c) (live-same vs ws (end_of now) c.range h)

pub path_of-same : (vs ws : List Version) (now : ℕ) (ops : Ops) → ((k : List ℕ) → value_at vs (end_of now) k ≡ value_at ws (end_of now) k)
    → path_of vs now ops ≡ path_of ws now ops
unfolding path_of
path_of-same vs ws now Ops.no_ops h = refl
path_of-same vs ws now (Ops.range q rest) h = ap (Path.range q) (path_of-same vs ws now rest h)
path_of-same vs ws now (Ops.put p rest) h = ap (Path.put p) (path_of-same vs ws now rest h)
path_of-same vs ws now (Ops.delete d rest) h = ap (Path.delete d) (path_of-same vs ws now rest h)
path_of-same vs ws now (Ops.txn cs s f rest) h = λ i. cond (list_all-same (holds vs now) (holds ws now) (λ c. holds-same vs ws now c h) cs
    i)
    (Path.txn true (path_of-same vs ws now s h i) (path_of-same vs ws now rest h i)) (Path.txn false (path_of-same vs ws now f h i)
    (path_of-same vs ws now rest h i))
