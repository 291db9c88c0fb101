-- What a transaction is answered and what it changes, told over a store that stands for the world.
use Rattle.std.proofs.Common.{◌≡◌, ◌≤◌, ℕ, ◌+◌, ◌^◌, List, [], ◌++◌, length, Option, None, Some, Err, refl, sym, ◌∙◌, ap, subst, arith}
use Rattle.kv_model.specs.declared.version.Version.{Version}
use Rattle.kv_model.specs.declared.call.Compare.{Compare}
use Rattle.kv_model.specs.declared.refusal.Refusal.{Refusal}
use Rattle.kv_model.specs.History.{Mutation, value_at, end_of}
use Rattle.store_laws.specs.Sound.{IsBatch}
use Rattle.kv_model.specs.Calls.{Call, Ops}
use Rattle.kv_model.specs.Txns.{Path, path_of, effect, run_refusal, replies_of, static_fault, extend_all, added_by}
use Rattle.store_laws.specs.Plans.{ReadsKept}
use Rattle.kv_model.specs.Leases.{is_granted}
use Rattle.kv_model.specs.Told.{Reply}
use Rattle.kv_model.specs.World.{World, revision, versions, changed}
use Rattle.kv_model.specs.Step.{Made, refused_or, commit_at, succeeded, inner_path, run_path, txn_in, made_in}
use Rattle.store_laws.specs.Stands.{Store, StandsFor, grown_noted}
use Rattle.store_laws.specs.Stores.{path_in, refusal_of_path, changes_of_path, reply_of_path}
use Rattle.store_laws.proofs.GoodLaws.{now-kept}
use Rattle.store_laws.proofs.BatchLaws.{good-added, dress-added}
use Rattle.store_laws.proofs.SameLaws.{effect-same, run_refusal-same, path_of-same}
use Rattle.store_laws.proofs.PlanLaws.{NoClash, effect-planned, refusal-planned}
use Rattle.store_laws.proofs.PlanBatch.{HasKeys, planned-batch}
use Rattle.store_laws.proofs.PathLaws.{path-checked}
use Rattle.store_laws.proofs.ReplyLaws.{not-refused-reads, same-replies, good-sees}
use Rattle.store_laws.proofs.StandsLaws.{value_stands, value_now_stands, store-given}
use Rattle.store_laws.proofs.StandsCommands.{store-one}
use Rattle.store_laws.proofs.WatchLaws.{noted_stands}

-- ---- the path, its changes and its first refusal

-- the compares are decided alike
pub path_stands : (s : Store) (w : World) → StandsFor s w → (ops : Ops) → path_in s ops ≡ path_of (versions w) (revision w) ops
path_stands s w h ops = path_of-same-at s.versions (versions w) s.revision (revision w) ops h.revision_is (value_stands s w h)
  where
    path_of-same-at : (us vs : List Version) (m n : ℕ) (ops : Ops) → m ≡ n → ((k : List ℕ) → value_at us (end_of m) k
        ≡ value_at vs (end_of n) k) → path_of us m ops ≡ path_of vs n ops
    path_of-same-at us vs m n ops e same = path_of-same us vs m ops (λ k. same k ∙ ap (λ r. value_at vs (end_of r) k) (sym e))
        ∙ ap (λ r. path_of vs r ops) e

-- the effect of a path without a clash is what the store plans
pub effect_stands : (s : Store) (w : World) → StandsFor s w → (q : Path) → NoClash q → effect (versions w) (revision w + 1) 0 q
    ≡ changes_of_path s q
effect_stands s w h q n = sym (effect-planned s.versions (s.revision + 1) [] q tt n
    ∙ effect-same s.versions (versions w) (s.revision + 1) 0 q (value_now_stands s w h)
    ∙ ap (λ r. effect (versions w) (r + 1) 0 q) h.revision_is)

pub run_refusal_stands : (s : Store) (w : World) → StandsFor s w → (q : Path) → NoClash q
    → run_refusal (is_granted w.leases) w.compacted (revision w) (versions w) 0 q ≡ refusal_of_path s q
run_refusal_stands s w h q n = sym (sym (refusal-planned (is_granted s.leases) s.compacted s.revision s.versions [] q tt n)
    ∙ run_refusal-same (is_granted s.leases) s.compacted s.revision s.versions (versions w) 0 q (value_now_stands s w h)
    ∙ (λ i. run_refusal (is_granted (h.leases i)) (h.compacted i) (h.revision_is i) (versions w) 0 q))

-- ---- the answers

-- where no Range of the path is refused, its operations are answered from the grown store
pub replies_stand : (s : Store) (w : World) → StandsFor s w → (q : Path) → ReadsKept s.compacted s.revision q → (us : List Mutation)
    → replies_of (versions (changed w us)) (revision w) 0 q ≡ replies_of (extend_all s.versions us) s.revision 0 q
replies_stand s w h q a us =
    let t : List Version = added_by (versions w) us in
    let reads : ReadsKept w.compacted (revision w) q = subst (λ n. ReadsKept w.compacted n q) h.revision_is
    (subst (λ c. ReadsKept c s.revision q) h.compacted a) in
    ap (λ vs. replies_of vs (revision w) 0 q) (dress-added w.mutations us)
    ∙ sym (same-replies w.compacted (revision w) (s.versions ++ t) (versions w ++ t) (good-sees s.versions t w.mutations w.compacted h.good
    h.sound.history h.sound.floor) (now-kept w.mutations w.compacted h.sound.history h.sound.floor) 0 q reads)
    ∙ ap (λ vs. replies_of vs (revision w) 0 q) (sym (good-added s.versions w.mutations us w.compacted h.good h.sound.history
    h.sound.floor))
    ∙ ap (λ n. replies_of (extend_all s.versions us) n 0 q) (sym h.revision_is)

inner-reads : (c n : ℕ) (q : Path) → ReadsKept c n q → ReadsKept c n (inner_path q)
inner-reads c n Path.end a = tt
inner-reads c n (Path.range r rest) a = tt
inner-reads c n (Path.put p rest) a = tt
inner-reads c n (Path.delete d rest) a = tt
inner-reads c n (Path.txn b inner rest) a = a.0

-- a path without a clash, whatever comes of it
pub path_told : (s : Store) (w : World) → StandsFor s w → (q : Path) → NoClash q
    → run_path w q ≡ refused_or (refusal_of_path s q) (commit_at s.revision (reply_of_path s q) w (changes_of_path s q))
unfolding run_path
path_told s w h q n = by (refusal_of_path s q) refl
  where
    made : Made
    made = commit_at s.revision (reply_of_path s q) w (changes_of_path s q)

    told : List Mutation → Made
    told ms = commit_at (revision w) (Reply.txn (succeeded q) (replies_of (versions (changed w ms)) (revision w) 0
        (inner_path q))) w ms

    same : refusal_of_path s q ≡ None → told (effect (versions w) (revision w + 1) 0 q) ≡ made
    same is = ap told (effect_stands s w h q n)
        ∙ ap (λ r. commit_at (revision w) (Reply.txn (succeeded q) r) w (changes_of_path s q)) (replies_stand s w h (inner_path q)
        (inner-reads s.compacted s.revision q (not-refused-reads (is_granted s.leases) s.compacted s.revision s.versions q is))
        (changes_of_path s q))
        ∙ ap (λ m. commit_at m (reply_of_path s q) w (changes_of_path s q)) (sym h.revision_is)

    by : (o : Option Refusal) → refusal_of_path s q ≡ o
        → refused_or (run_refusal (is_granted w.leases) w.compacted (revision w) (versions w) 0 q)
        (told (effect (versions w) (revision w + 1) 0 q)) ≡ refused_or (refusal_of_path s q) made
    by (Some e) is = ap (λ o. refused_or o (told (effect (versions w) (revision w + 1) 0 q))) (run_refusal_stands s w h q n ∙ is)
        ∙ sym (ap (λ o. refused_or o made) is)
    by None is = ap (λ o. refused_or o (told (effect (versions w) (revision w + 1) 0 q))) (run_refusal_stands s w h q n ∙ is) ∙ same is
        ∙ sym (ap (λ o. refused_or o made) is)

-- ---- the call

pub txn_refused : (w : World) (cs : List Compare) (a b : Ops) (e : Refusal) → static_fault (Ops.txn cs a b Ops.no_ops) ≡ Some e
    → made_in w (Call.txn cs a b) ≡ Err e
unfolding txn_in
txn_refused w cs a b e is = ap (λ o. refused_or o (run_path w (path_of (versions w) (revision w) (Ops.txn cs a b Ops.no_ops)))) is

pub txn_told : (s : Store) (w : World) → StandsFor s w → (cs : List Compare) (a b : Ops) → static_fault (Ops.txn cs a b Ops.no_ops) ≡ None
    → made_in w (Call.txn cs a b)
    ≡ refused_or (refusal_of_path s (path_in s (Ops.txn cs a b Ops.no_ops)))
    (commit_at s.revision (reply_of_path s (path_in s (Ops.txn cs a b Ops.no_ops))) w
    (changes_of_path s (path_in s (Ops.txn cs a b Ops.no_ops))))
unfolding txn_in
txn_told s w h cs a b is =
    let ops : Ops = Ops.txn cs a b Ops.no_ops in
    ap (λ o. refused_or o (run_path w (path_of (versions w) (revision w) ops))) is
    ∙ ap (run_path w) (sym (path_stands s w h ops))
    ∙ path_told s w h (path_in s ops) (path-checked s.versions s.revision ops is).0

pub txn_batch : (s : Store) (w : World) → StandsFor s w → (ops : Ops) → static_fault ops ≡ None
    → length (changes_of_path s (path_in s ops)) ≤ 2 ^ 64 → IsBatch (s.revision + 1) (changes_of_path s (path_in s ops))
txn_batch s w h ops is l =
    let one : 1 ≤ s.revision = store-one s w h in
    let checked : NoClash (path_in s ops) × HasKeys (path_in s ops) = path-checked s.versions s.revision ops is in
    planned-batch s.versions (s.revision + 1) (path_in s ops) checked.0 checked.1 (store-given s w h) (omega arith) l

-- the store goes on standing for the world after a transaction
pub txn_stands : (s : Store) (w : World) → StandsFor s w → (ops : Ops) → static_fault ops ≡ None
    → length (changes_of_path s (path_in s ops)) ≤ 2 ^ 64
    → StandsFor (grown_noted s (changes_of_path s (path_in s ops))) (changed w (changes_of_path s (path_in s ops)))
txn_stands s w h ops is l = noted_stands s w h (changes_of_path s (path_in s ops)) (txn_batch s w h ops is l)
