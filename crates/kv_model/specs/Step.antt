-- One event of the store: its reply, and the world after it.
use Rattle.std.specs.Prelude.{ℕ, zero, suc, ◌+◌, ◌-◌, ◌^◌, ℤ, pos, negsuc, List, [], ◌∷◌, ◌++◌, length, map, Bool}
use Rattle.std.specs.Prelude.{false, not, ◌||◌, ◌==◌, nat_lt, nat_le, if◌then◌else◌, Option, None, Some}
use Rattle.std.specs.Prelude.{Result, Ok, Err}
use Rattle.std.specs.Option.{option_or}
use Rattle.kv_model.specs.declared.version.KeyRange.{KeyRange}
use Rattle.kv_model.specs.declared.call.RangeQuery.{RangeQuery}
use Rattle.kv_model.specs.declared.call.PutRequest.{PutRequest}
use Rattle.kv_model.specs.declared.call.DeleteRequest.{DeleteRequest}
use Rattle.kv_model.specs.declared.call.Watched.{Watched}
use Rattle.kv_model.specs.declared.refusal.Refusal.{Refusal}
use Rattle.kv_model.specs.declared.refusal.Refusal.TheVariants.{NoKey, Compacted, Future, LeaseMissing, LeaseExists}
use Rattle.kv_model.specs.declared.refusal.Refusal.TheVariants.{TtlTooLarge, TooManyLeases, TooManyWatches}
use Rattle.kv_model.specs.declared.refusal.Refusal.TheVariants.{RevisionsSpent}
use Rattle.kv_model.specs.Lists.{is_empty}
use Rattle.kv_model.specs.Keys.{zero_byte}
use Rattle.kv_model.specs.History.{Mutation, value_at, end_of}
use Rattle.kv_model.specs.Ranges.{range_refusal, range_reply, live, refuse_if}
use Rattle.kv_model.specs.Calls.{Call, Ops}
use Rattle.kv_model.specs.Txns.{Path, put_fault, put_refusal, static_fault, run_refusal, path_of, effect, replies_of}
use Rattle.kv_model.specs.Txns.{delete_changes, deletes_of, put_change, previous_value, if_asked}
use Rattle.kv_model.specs.Leases.{Lease, is_granted, lease_at, insert_lease, without_lease, id_asked, ttl_asked}
use Rattle.kv_model.specs.Leases.{deadline_of, seconds_left, renewed, keys_of_lease, due, most_leases, longest_ttl}
use Rattle.kv_model.specs.World.{World, Watch, revision, versions, changed}
use Rattle.kv_model.specs.Told.{Reply, Answer, Expiry}

abbrev pub last_main : ℕ
last_main = 2 ^ 63 - 1

-- the reply and the world after it, or a refusal, which changes nothing
abbrev pub Made : Type 0
Made = Result (Reply × World) Refusal

abbrev pub refused_or : Option Refusal → Made → Made
refused_or (Some e) made = Err e
refused_or None made = made

-- the changes made behind a revision, as long as there is another for them
abbrev pub commit_at : ℕ → Reply → World → List Mutation → Made
commit_at now r w [] = Ok (r, w)
commit_at now r w (m ∷ ms) = if nat_lt now last_main then Ok (r, changed w (m ∷ ms)) else Err RevisionsSpent

abbrev pub commit : Reply → World → List Mutation → Made
commit r w ms = commit_at (revision w) r w ms

unfoldable pub range_in : World → RangeQuery → Made
range_in w q = refused_or (range_refusal w.compacted (revision w) q)
    (Ok (Reply.range (range_reply (versions w) (revision w) (end_of (revision w)) q), w))

unfoldable pub put_in : World → PutRequest → Made
put_in w p = refused_or (option_or (put_fault p) (put_refusal (is_granted w.leases) (versions w) p))
    (commit (Reply.put (previous_value p.prev_kv (value_at (versions w) (end_of (revision w)) p.key))) w
    (put_change (versions w) (revision w + 1) 0 p ∷ []))

unfoldable pub delete_in : World → DeleteRequest → Made
delete_in w d =
    let kvs = live (versions w) (end_of (revision w)) d.range in
    refused_or (refuse_if (is_empty d.range.key) NoKey)
    (commit (Reply.delete (length kvs) (if_asked d.prev_kv kvs)) w (delete_changes (versions w) (revision w + 1) 0 d))

-- whether the outermost compares held
abbrev pub succeeded : Path → Bool
succeeded Path.end = false
succeeded (Path.range q rest) = false
succeeded (Path.put p rest) = false
succeeded (Path.delete d rest) = false
succeeded (Path.txn b inner rest) = b

abbrev pub inner_path : Path → Path
inner_path Path.end = Path.end
inner_path (Path.range q rest) = Path.end
inner_path (Path.put p rest) = Path.end
inner_path (Path.delete d rest) = Path.end
inner_path (Path.txn b inner rest) = inner

-- the path is known, and so is what it changes: the reply is read in the world after it
unfoldable pub run_path : World → Path → Made
run_path w path =
    let ms = effect (versions w) (revision w + 1) 0 path in
    refused_or (run_refusal (is_granted w.leases) w.compacted (revision w) (versions w) 0 path)
    (commit (Reply.txn (succeeded path) (replies_of (versions (changed w ms)) (revision w) 0
    (inner_path path))) w ms)

unfoldable pub txn_in : World → Ops → Made
txn_in w ops = refused_or (static_fault ops) (run_path w (path_of (versions w) (revision w) ops))

abbrev pub compact_refusal : ℕ → ℕ → ℤ → Option Refusal
compact_refusal c now (negsuc n) = Some (Compacted c)
compact_refusal c now (pos r) = if r == 0 || nat_le r c then Some (Compacted c)
    else refuse_if (nat_lt now r) (Future now)

-- a signed number, and 0 for those below
abbrev pub at_least_zero : ℤ → ℕ
at_least_zero (pos n) = n
at_least_zero (negsuc n) = 0

unfoldable pub compact_in : World → ℤ → Made
compact_in w r = refused_or (compact_refusal w.compacted (revision w) r) (Ok (
  Reply.compact,
  record w { compacted = at_least_zero r },
))

abbrev pub most_watches : ℕ
most_watches = 1024

-- an empty key counts as the byte 0
abbrev pub watched_range : KeyRange → KeyRange
watched_range r = if is_empty r.key then record r { key = zero_byte } else r

-- 0 and below is the next revision
abbrev pub start_of : ℕ → ℤ → ℕ
start_of now (pos zero) = now + 1
start_of now (pos (suc s)) = suc s
start_of now (negsuc n) = now + 1

abbrev pub new_watch : World → Watched → ℤ → ℤ → Watch
new_watch w watched start id = record {
  number = w.made + 1;
  id = id;
  watched = record watched { range = watched_range watched.range };
  late = nat_lt (start_of (revision w) start) w.compacted;
  next = start_of (revision w) start;
}

unfoldable pub watch_in : World → Watched → ℤ → ℤ → Made
watch_in w watched start id = refused_or (refuse_if (nat_le most_watches (length w.watches)
    || nat_le last_main w.made) TooManyWatches)
    (Ok (
      Reply.watch id (w.made + 1),
      record w {
        watches = w.watches ++ new_watch w watched start id ∷ [];
        made = w.made + 1;
      },
    ))

abbrev pub grant_refusal : World → ℤ → ℤ → Option Refusal
grant_refusal w ttl id = option_or (refuse_if (nat_lt longest_ttl (ttl_asked ttl)) TtlTooLarge)
    (option_or (refuse_if (is_granted w.leases id) LeaseExists)
    (refuse_if (nat_le most_leases (length w.leases)) TooManyLeases))

unfoldable pub grant_in : World → ℤ → ℤ → Made
grant_in w ttl id =
    let l : Lease = record {
      id = id_asked w.leases id;
      ttl = ttl_asked ttl;
      deadline = deadline_of w.clock (ttl_asked ttl);
    } in
    refused_or (grant_refusal w ttl id) (Ok (Reply.grant l.id l.ttl, record w { leases = insert_lease l w.leases }))

abbrev pub lease_changes : World → ℤ → List Mutation
lease_changes w id = deletes_of (revision w + 1) 0 (keys_of_lease (versions w) (revision w) id)

unfoldable pub revoke_in : World → ℤ → Made
revoke_in w id = refused_or (refuse_if (not (is_granted w.leases id)) LeaseMissing)
    (commit Reply.revoke (record w { leases = without_lease id w.leases }) (lease_changes w id))

unfoldable pub keep_alive_in : World → ℤ → Option Lease → Made
keep_alive_in w id None = Ok (Reply.keep_alive id 0, w)
keep_alive_in w id (Some l) = Ok (Reply.keep_alive id l.ttl, record w { leases = map (renewed w.clock id) w.leases })

unfoldable pub time_to_live_in : World → ℤ → Bool → Option Lease → Made
time_to_live_in w id asked None = Ok (Reply.time_to_live id (negsuc 0) 0 [], w)
time_to_live_in w id asked (Some l) = Ok (
  Reply.time_to_live id (pos (seconds_left w.clock l)) l.ttl
      (if_asked asked (keys_of_lease (versions w) (revision w) id)),
  w,
)

abbrev pub made_in : World → Call → Made
made_in w (Call.range q) = range_in w q
made_in w (Call.put p) = put_in w p
made_in w (Call.delete d) = delete_in w d
made_in w (Call.txn cs s f) = txn_in w (Ops.txn cs s f Ops.no_ops)
made_in w (Call.compact r physical) = compact_in w r
made_in w (Call.watch watched start id) = watch_in w watched start id
made_in w (Call.grant ttl id) = grant_in w ttl id
made_in w (Call.revoke id) = revoke_in w id
made_in w (Call.keep_alive id) = keep_alive_in w id (lease_at w.leases id)
made_in w (Call.time_to_live id asked) = time_to_live_in w id asked (lease_at w.leases id)
made_in w Call.leases = Ok (Reply.leases (map (λ l. l.id) w.leases), w)

abbrev pub answer_of : Made → Result Answer Refusal
answer_of (Ok made) = Ok (record { reply = made.0; revision = revision made.1 })
answer_of (Err e) = Err e

abbrev pub world_of : World → Made → World
world_of w (Ok made) = made.1
world_of w (Err e) = w

-- one command: its answer, and the world after it
abbrev pub perform : World → Call → Result Answer Refusal × World
perform w call =
    let made = made_in w call in
    (answer_of made, world_of w made)

-- ---- expiry

abbrev pub expiry_of : ℤ → World → Made → Expiry × World
expiry_of id w (Ok made) = (Expiry.expired id (revision made.1) (nat_lt (revision w) (revision made.1)), made.1)
expiry_of id w (Err e) = (Expiry.spent, w)

abbrev pub expire_at : World → Option Lease → Expiry × World
expire_at w None = (Expiry.nothing, w)
expire_at w (Some l) = expiry_of l.id w (revoke_in w l.id)

-- the lease that is due first is revoked
abbrev pub expire : World → Expiry × World
expire w = expire_at w (due w.clock w.leases)
