-- No event but a moment moves a world's clock, and a moment that was handed in already moves it no more.
use Rattle.std.proofs.Common.{◌≡◌, ℕ, ℤ, ◌+◌, Bool, true, false, cond, List, [], ◌∷◌, ◌++◌, length, map, Option, None, Some, Ok, Err, refl, sym, ◌∙◌, ap}
use Rattle.std.proofs.Common.{arith, min, max, ◌^◌, not, ◌||◌}
use Rattle.std.specs.Prelude.{nat_le, nat_lt, ⊤}
use Rattle.std.specs.Option.{option_or}
use Rattle.kv_model.specs.declared.call.RangeQuery.{RangeQuery}
use Rattle.kv_model.specs.declared.call.PutRequest.{PutRequest}
use Rattle.kv_model.specs.declared.call.DeleteRequest.{DeleteRequest}
use Rattle.kv_model.specs.declared.call.Watched.{Watched}
use Rattle.kv_model.specs.declared.refusal.Refusal.{Refusal}
use Rattle.kv_model.specs.declared.refusal.Refusal.TheVariants.{LeaseMissing, NoKey, RevisionsSpent, TooManyWatches}
use Rattle.kv_model.specs.Calls.{Call, Ops}
use Rattle.kv_model.specs.History.{Mutation, end_of, value_at}
use Rattle.kv_model.specs.Leases.{Lease, deadline_of, due, id_asked, insert_lease, is_granted, lease_at, ttl_asked, without_lease}
use Rattle.kv_model.specs.Lists.{is_empty}
use Rattle.kv_model.specs.Ranges.{live, range_refusal, range_reply, refuse_if}
use Rattle.kv_model.specs.Step.{Made, at_least_zero, commit, commit_at, compact_in, compact_refusal, delete_in, expire, expire_at, expiry_of}
use Rattle.kv_model.specs.Step.{grant_in, grant_refusal, inner_path, keep_alive_in, last_main, lease_changes, made_in, most_watches, new_watch}
use Rattle.kv_model.specs.Step.{perform, put_in, range_in, refused_or, revoke_in, run_path, succeeded, time_to_live_in, txn_in, watch_in, world_of}
use Rattle.kv_model.specs.Told.{Reply}
use Rattle.kv_model.specs.Txns.{Path, delete_changes, effect, if_asked, path_of, previous_value, put_change, put_fault, put_refusal}
use Rattle.kv_model.specs.Txns.{replies_of, run_refusal, static_fault}
use Rattle.kv_model.specs.Watches.{Delivery, after_delivery, deliver}
use Rattle.kv_model.specs.World.{World, at_moment, changed, revision, versions}

-- what a command makes of a world has this clock
Keeps : ℕ → Made → Type 0
Keeps n (Ok made) = made.1.clock ≡ n
Keeps n (Err e) = ⊤

-- ---- moments

handed_again : (a c n k : ℕ) → max (max a (min c k)) (min n k) ≡ max a (min (max c n) k)
handed_again a c n k = omega arith

-- a moment behind another is the greater one
pub moments : (w : World) (c n : ℕ) → at_moment (at_moment w c) n ≡ at_moment w (max c n)
moments w c n = ap (λ m. record w { clock = m }) (handed_again w.clock c n (2 ^ 62))

pub twice : (w : World) (c : ℕ) → at_moment (at_moment w c) c ≡ at_moment w c
twice w c = moments w c c ∙ ap (at_moment w) (omega arith)

-- a world of the same clock is at the same moments
pub same_clock : (u w : World) (m : ℕ) → u.clock ≡ w.clock → at_moment w m ≡ w → at_moment u m ≡ u
same_clock u w m e at = ap (λ c. record u { clock = c }) (ap (λ c. max c (min m (2 ^ 62))) e ∙ ap (λ (x : World). x.clock) at ∙ sym e)

-- ---- commands

or_refused : (n : ℕ) (why : Option Refusal) (made : Made) → Keeps n made → Keeps n (refused_or why made)
unfolding Keeps
or_refused n (Some e) made k = tt
or_refused n None made k = k

-- a world of the same clock
stays : (w u : World) (r : Reply) → u.clock ≡ w.clock → Keeps w.clock (Ok (r, u))
unfolding Keeps
stays w u r e = e

committed : (b : Bool) (r : Reply) (w : World) (ms : List Mutation) → Keeps w.clock (cond b (Ok (r, changed w ms)) (Err RevisionsSpent))
unfolding Keeps
committed true r w ms = refl
committed false r w ms = tt

commits : (now : ℕ) (r : Reply) (w : World) (ms : List Mutation) → Keeps w.clock (commit_at now r w ms)
unfolding Keeps
commits now r w [] = refl
commits now r w (m ∷ ms) = committed (nat_lt now last_main) r w (m ∷ ms)

kept_alive : (w : World) (id : ℤ) (l : Option Lease) → Keeps w.clock (keep_alive_in w id l)
unfolding keep_alive_in Keeps
kept_alive w id None = refl
kept_alive w id (Some l) = refl

lives : (w : World) (id : ℤ) (asked : Bool) (l : Option Lease) → Keeps w.clock (time_to_live_in w id asked l)
unfolding time_to_live_in Keeps
lives w id asked None = refl
lives w id asked (Some l) = refl

-- a command that commits these changes, unless it is refused
or_commits : (why : Option Refusal) (r : Reply) (w : World) (ms : List Mutation) → Keeps w.clock (refused_or why (commit r w ms))
or_commits why r w ms = or_refused w.clock why (commit r w ms) (commits (revision w) r w ms)

-- one that changes something beside the history, or nothing
or_stays : (why : Option Refusal) (r : Reply) (w u : World) → u.clock ≡ w.clock → Keeps w.clock (refused_or why (Ok (r, u)))
or_stays why r w u e = or_refused w.clock why (Ok (r, u)) (stays w u r e)

revoked : (w : World) (id : ℤ) → Keeps w.clock (revoke_in w id)
unfolding revoke_in
revoked w id = or_commits (refuse_if (not (is_granted w.leases id)) LeaseMissing) Reply.revoke
    (record w { leases = without_lease id w.leases }) (lease_changes w id)

ran : (w : World) (path : Path) → Keeps w.clock (run_path w path)
unfolding run_path
ran w path =
    let ms = effect (versions w) (revision w + 1) 0 path in
    or_commits (run_refusal (is_granted w.leases) w.compacted (revision w) (versions w) 0 path)
    (Reply.txn (succeeded path) (replies_of (versions (changed w ms)) (revision w) 0 (inner_path path))) w ms

ranged : (w : World) (q : RangeQuery) → Keeps w.clock (range_in w q)
unfolding range_in
ranged w q = or_stays (range_refusal w.compacted (revision w) q)
    (Reply.range (range_reply (versions w) (revision w) (end_of (revision w)) q)) w w refl

put : (w : World) (p : PutRequest) → Keeps w.clock (put_in w p)
unfolding put_in
put w p = or_commits (option_or (put_fault p) (put_refusal (is_granted w.leases) (versions w) p))
    (Reply.put (previous_value p.prev_kv (value_at (versions w) (end_of (revision w)) p.key))) w
    (put_change (versions w) (revision w + 1) 0 p ∷ [])

deleted : (w : World) (d : DeleteRequest) → Keeps w.clock (delete_in w d)
unfolding delete_in
deleted w d =
    let kvs = live (versions w) (end_of (revision w)) d.range in
    or_commits (refuse_if (is_empty d.range.key) NoKey) (Reply.delete (length kvs) (if_asked d.prev_kv kvs)) w
    (delete_changes (versions w) (revision w + 1) 0 d)

made_txn : (w : World) (ops : Ops) → Keeps w.clock (txn_in w ops)
unfolding txn_in
made_txn w ops = or_refused w.clock (static_fault ops) (run_path w (path_of (versions w) (revision w) ops))
    (ran w (path_of (versions w) (revision w) ops))

compacted : (w : World) (r : ℤ) → Keeps w.clock (compact_in w r)
unfolding compact_in
compacted w r = or_stays (compact_refusal w.compacted (revision w) r) Reply.compact w (record w { compacted = at_least_zero r }) refl

watched_by : (w : World) (watched : Watched) (start id : ℤ) → Keeps w.clock (watch_in w watched start id)
unfolding watch_in
watched_by w watched start id =
    or_stays (refuse_if (nat_le most_watches (length w.watches) || nat_le last_main w.made) TooManyWatches) (Reply.watch id (w.made + 1)) w
    (record w { watches = w.watches ++ new_watch w watched start id ∷ []; made = w.made + 1 }) refl

granted : (w : World) (ttl id : ℤ) → Keeps w.clock (grant_in w ttl id)
unfolding grant_in
granted w ttl id =
    let l : Lease = record { id = id_asked w.leases id; ttl = ttl_asked ttl; deadline = deadline_of w.clock (ttl_asked ttl) } in
    or_stays (grant_refusal w ttl id) (Reply.grant l.id l.ttl) w (record w { leases = insert_lease l w.leases }) refl

made_keeps : (w : World) (call : Call) → Keeps w.clock (made_in w call)
made_keeps w (Call.range q) = ranged w q
made_keeps w (Call.put p) = put w p
made_keeps w (Call.delete d) = deleted w d
made_keeps w (Call.txn cs s f) = made_txn w (Ops.txn cs s f Ops.no_ops)
made_keeps w (Call.compact r physical) = compacted w r
made_keeps w (Call.watch watched start id) = watched_by w watched start id
made_keeps w (Call.grant ttl id) = granted w ttl id
made_keeps w (Call.revoke id) = revoked w id
made_keeps w (Call.keep_alive id) = kept_alive w id (lease_at w.leases id)
made_keeps w (Call.time_to_live id asked) = lives w id asked (lease_at w.leases id)
made_keeps w Call.leases = stays w w (Reply.leases (map (λ l. l.id) w.leases)) refl

made_clock : (w : World) (made : Made) → Keeps w.clock made → (world_of w made).clock ≡ w.clock
unfolding Keeps
made_clock w (Ok made) k = k
made_clock w (Err e) k = refl

pub command_clock : (w : World) (call : Call) → (perform w call).1.clock ≡ w.clock
command_clock w call = made_clock w (made_in w call) (made_keeps w call)

-- ---- a step of expiry, a delivery

expiry_made : (w : World) (id : ℤ) (made : Made) → Keeps w.clock made → (expiry_of id w made).1.clock ≡ w.clock
unfolding Keeps
expiry_made w id (Ok made) k = k
expiry_made w id (Err e) k = refl

expired_at : (w : World) (l : Option Lease) → (expire_at w l).1.clock ≡ w.clock
expired_at w None = refl
expired_at w (Some l) = expiry_made w l.id (revoke_in w l.id) (revoked w l.id)

pub expiry_clock : (w : World) → (expire w).1.clock ≡ w.clock
expiry_clock w = expired_at w (due w.clock w.leases)

delivered : (w : World) (n : ℕ) (d : Delivery) → (after_delivery w n d).clock ≡ w.clock
delivered w n Delivery.no_watch = refl
delivered w n Delivery.nothing = refl
delivered w n (Delivery.events es) = refl
delivered w n (Delivery.cancelled c) = refl

pub delivery_clock : (w : World) (n : ℕ) → (deliver w n).1.clock ≡ w.clock
delivery_clock w n = delivered w n (deliver w n).0
