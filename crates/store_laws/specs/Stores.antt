-- What commands are answered, and what they change, told over a store that stands for a world.
use Rattle.std.specs.Prelude.{ℕ, ◌+◌, ◌^◌, ℤ, pos, negsuc, min, max, List, [], ◌∷◌, ◌++◌, ◌||◌, length, map, Bool, not}
use Rattle.std.specs.Prelude.{nat_lt, nat_le, Option, None, Some}
use Rattle.std.specs.Option.{option_or}
use Rattle.kv_model.specs.declared.call.RangeQuery.{RangeQuery}
use Rattle.kv_model.specs.declared.call.PutRequest.{PutRequest}
use Rattle.kv_model.specs.declared.call.DeleteRequest.{DeleteRequest}
use Rattle.kv_model.specs.declared.call.Watched.{Watched}
use Rattle.kv_model.specs.declared.refusal.Refusal.{Refusal}
use Rattle.kv_model.specs.declared.refusal.Refusal.TheVariants.{NoKey, TtlTooLarge, LeaseExists, TooManyLeases}
use Rattle.kv_model.specs.declared.refusal.Refusal.TheVariants.{LeaseMissing, TooManyWatches}
use Rattle.kv_model.specs.Lists.{is_empty}
use Rattle.kv_model.specs.History.{Mutation, value_at, end_of}
use Rattle.kv_model.specs.Ranges.{range_refusal, range_reply, live, keys_of, refuse_if}
use Rattle.kv_model.specs.Txns.{Path, path_of, put_fault, put_refusal, put_change, deletes_of, extend_all, replies_of}
use Rattle.kv_model.specs.Txns.{previous_value, if_asked}
use Rattle.kv_model.specs.Leases.{Lease, is_granted, id_asked, ttl_asked, deadline_of, longest_ttl, most_leases}
use Rattle.kv_model.specs.Leases.{keys_of_lease, renewed, seconds_left}
use Rattle.kv_model.specs.Calls.{Ops}
use Rattle.store_laws.specs.Plans.{planned, planned_refusal}
use Rattle.kv_model.specs.Told.{Reply}
use Rattle.kv_model.specs.Step.{succeeded, inner_path, last_main, most_watches, watched_range, start_of}
use Rattle.kv_model.specs.World.{Watch}
use Rattle.kv_model.specs.Watches.{undelivered}
use Rattle.store_laws.specs.Stands.{Store, Tracked, first_main_of, ahead_of}

-- ---- Range

abbrev pub refusal_of_range : Store → RangeQuery → Option Refusal
refusal_of_range s q = range_refusal s.compacted s.revision q

abbrev pub reply_of_range : Store → RangeQuery → Reply
reply_of_range s q = Reply.range (range_reply s.versions s.revision (end_of s.revision) q)

-- ---- Put

abbrev pub refusal_of_put : Store → PutRequest → Option Refusal
refusal_of_put s p = option_or (put_fault p) (put_refusal (is_granted s.leases) s.versions p)

abbrev pub reply_of_put : Store → PutRequest → Reply
reply_of_put s p = Reply.put (previous_value p.prev_kv (value_at s.versions (end_of s.revision) p.key))

abbrev pub changes_of_put : Store → PutRequest → List Mutation
changes_of_put s p = put_change s.versions (s.revision + 1) 0 p ∷ []

-- ---- DeleteRange

abbrev pub refusal_of_delete : DeleteRequest → Option Refusal
refusal_of_delete d = refuse_if (is_empty d.range.key) NoKey

abbrev pub reply_of_delete : Store → DeleteRequest → Reply
reply_of_delete s d =
    let kvs = live s.versions (end_of s.revision) d.range in
    Reply.delete (length kvs) (if_asked d.prev_kv kvs)

abbrev pub changes_of_delete : Store → DeleteRequest → List Mutation
changes_of_delete s d = deletes_of (s.revision + 1) 0 (keys_of (live s.versions (end_of s.revision) d.range))

-- ---- Txn

-- the operations that run, each compare decided on the store
abbrev pub path_in : Store → Ops → Path
path_in s ops = path_of s.versions s.revision ops

abbrev pub refusal_of_path : Store → Path → Option Refusal
refusal_of_path s q = planned_refusal (is_granted s.leases) s.compacted s.revision s.versions q

abbrev pub changes_of_path : Store → Path → List Mutation
changes_of_path s q = planned s.versions (s.revision + 1) [] q

-- read in the versions that the store has with the changes
abbrev pub reply_of_path : Store → Path → Reply
reply_of_path s q = Reply.txn (succeeded q) (replies_of (extend_all s.versions (changes_of_path s q)) s.revision 0
    (inner_path q))

-- ---- Compact

abbrev pub with_floor : Store → ℕ → Store
with_floor s c = record s { compacted = c }

-- ---- leases

abbrev pub with_leases : Store → List Lease → Store
with_leases s ls = record s { leases = ls }

abbrev pub refusal_of_grant : Store → ℤ → ℤ → Option Refusal
refusal_of_grant s ttl id = option_or (refuse_if (nat_lt longest_ttl (ttl_asked ttl)) TtlTooLarge)
    (option_or (refuse_if (is_granted s.leases id) LeaseExists)
    (refuse_if (nat_le most_leases (length s.leases)) TooManyLeases))

-- the lease that is granted
abbrev pub granted_lease : Store → ℤ → ℤ → Lease
granted_lease s ttl id = record {
  id = id_asked s.leases id;
  ttl = ttl_asked ttl;
  deadline = deadline_of s.clock (ttl_asked ttl);
}

abbrev pub refusal_of_revoke : Store → ℤ → Option Refusal
refusal_of_revoke s id = refuse_if (not (is_granted s.leases id)) LeaseMissing

-- the keys of the lease are deleted
abbrev pub changes_of_revoke : Store → ℤ → List Mutation
changes_of_revoke s id = deletes_of (s.revision + 1) 0 (keys_of_lease s.versions s.revision id)

abbrev pub renewed_leases : Store → ℤ → List Lease
renewed_leases s id = map (renewed s.clock id) s.leases

-- the reply to a time to live, by the lease where it is granted
abbrev pub reply_of_time_to_live : Store → ℤ → Bool → Option Lease → Reply
reply_of_time_to_live s id asked None = Reply.time_to_live id (negsuc 0) 0 []
reply_of_time_to_live s id asked (Some l) = Reply.time_to_live id (pos (seconds_left s.clock l)) l.ttl
    (if_asked asked (keys_of_lease s.versions s.revision id))

abbrev pub reply_of_leases : Store → Reply
reply_of_leases s = Reply.leases (map (λ l. l.id) s.leases)

abbrev pub at_store_moment : Store → ℕ → Store
at_store_moment s m = record s { clock = max s.clock (min m (2 ^ 62)) }

-- ---- watches

abbrev pub refusal_of_watch : Store → Option Refusal
refusal_of_watch s = refuse_if (nat_le most_watches (length s.watches) || nat_le last_main s.made) TooManyWatches

-- the watch that is made, as the world has it
abbrev pub watch_made : Store → Watched → ℤ → ℤ → Watch
watch_made s watched start id = record {
  number = s.made + 1;
  id = id;
  watched = record watched { range = watched_range watched.range };
  late = nat_lt (start_of s.revision start) s.compacted;
  next = start_of s.revision start;
}

-- and as the store has it, found in the versions that are kept
abbrev pub tracked_made : Store → Watched → ℤ → ℤ → Tracked
tracked_made s watched start id =
    let w : Watch = watch_made s watched start id in
    record {
      number = w.number;
      id = w.id;
      watched = w.watched;
      late = w.late;
      first = first_main_of (undelivered s.versions w);
      ahead = ahead_of s.revision w.next;
    }

abbrev pub with_watch : Store → Tracked → Store
with_watch s t = record s { watches = s.watches ++ t ∷ []; made = s.made + 1 }
