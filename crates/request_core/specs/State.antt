-- What a core holds, and how a command changes it.
use Rattle.std.specs.Prelude.{◌≡◌, ℕ, ℤ, ◌+◌, ◌<◌, ◌≤◌, ◌%◌, ◌^◌, List, [], ◌∷◌, ◌++◌, map, Bool}
use Rattle.std.specs.Prelude.{true, false, not, ◌&&◌}
use Rattle.std.specs.Prelude.{nat_le, nat_lt, filter, Option, None, Some, option_map, if◌then◌else◌}
use Rattle.std.specs.Option.{option_or}
use Rattle.std.specs.List.{AllByRecursion}
use Rattle.std.specs.Ordering.{int_eq}
use Rattle.kv_model.specs.declared.version.Rev.{Rev}
use Rattle.kv_model.specs.declared.version.Version.{Version}
use Rattle.kv_model.specs.declared.version.KeyRange.{KeyRange}
use Rattle.kv_model.specs.declared.call.PutRequest.{PutRequest}
use Rattle.kv_model.specs.declared.call.DeleteRequest.{DeleteRequest}
use Rattle.kv_model.specs.declared.call.Watched.{Watched}
use Rattle.kv_model.specs.declared.refusal.Refusal.{Refusal}
use Rattle.kv_model.specs.declared.refusal.Refusal.TheVariants.{RevisionsSpent}
use Rattle.kv_model.specs.Calls.{Call, Ops}
use Rattle.kv_model.specs.Certificates.{Dump}
use Rattle.kv_model.specs.Feed.{Published}
use Rattle.kv_model.specs.Keys.{all_keys}
use Rattle.kv_model.specs.Leases.{Lease, is_granted, insert_lease, without_lease, due}
use Rattle.kv_model.specs.Lists.{is_empty}
use Rattle.kv_model.specs.Ranges.{live, refuse_if}
use Rattle.kv_model.specs.Txns.{put_fault, static_fault}
use Rattle.kv_model.specs.Txns as txns
use Rattle.kv_model.specs.History.{KeyValue, value_at, end_of}
use Rattle.kv_model.specs.Step.{last_main, at_least_zero}
use Rattle.kv_model.specs.Headline.{Keeping}
use Rattle.kv_model.specs.Told.{Trimmed}
use Rattle.store_laws.specs.Trimming.{TrimStep, trimmed, oldest_place, IsTrimmedTo}
use Rattle.store_laws.specs.TrimmingLaws.{keeping}
use Rattle.store_laws.specs.FeedLaws.{stored_at}
use Rattle.store_laws.specs.Stands.{Store, Tracked, noted}
use Rattle.watch_hub.specs.Hub.{Hub}
use Rattle.store_laws.specs.Stores.{path_in, refusal_of_path, changes_of_path, refusal_of_delete, with_leases}
use Rattle.store_laws.specs.Stores.{granted_lease, refusal_of_revoke, renewed_leases, at_store_moment}
use Rattle.store_laws.specs.Stores.{tracked_made, with_floor, with_watch}
use Rattle.lease_book.specs.Book.{Book}
use Rattle.range_view.specs.Stored.{Stored}
use Rattle.txn_core.specs.KeyWrites.{held_refusal, put_version, IsCountedTo}
use Rattle.txn_core.specs.Planning.{at_once}
use Rattle.request_core.specs.Writing.{next_rev, tombstones}

-- what clauses see of a core: what is kept, the first place that trimming has not looked at, and how many changing
-- calls came, wrapping
pub record CoreState : Type 0 where
  pub store : Store
  pub place : Rev
  pub stamp : ℕ

-- the store that tables, a book and a hub keep
abbrev pub store_kept : Stored → Book → Hub → Store
store_kept t b h = record {
  versions = t.versions;
  revision = t.revision;
  compacted = t.compacted;
  leases = b.leases;
  clock = b.clock;
  watches = h.watches;
  made = h.made;
}

abbrev pub core_state : Stored → Book → Hub → ℕ → CoreState
core_state t b h stamp = record { store = store_kept t b h; place = t.place; stamp = stamp }

-- before the first watch
abbrev pub no_watches : Hub
no_watches = record { watches = []; made = 0 }

-- the versions of the present revision
abbrev pub newest : Stored → List Version
newest t = filter (λ v. nat_le t.revision v.rev.main) t.versions

-- what is true of the fields of every core
pub record IsSound (t : Stored) : Type 0 where
  pub fits : t.revision ≤ last_main
  pub places : AllByRecursion (λ v. v.rev.sub < 2 ^ 64) t.versions
  pub counted : AllByRecursion (λ v. IsCountedTo t.revision v.body) t.versions
  -- what is compacted has happened, and nothing that goes was left behind the place of trimming
  pub floor : t.compacted ≤ t.revision
  pub trimmed : IsTrimmedTo t.versions t.place t.compacted

-- what a key holds at the store's revision, and what the keys of a range hold
abbrev pub held_in : Store → List ℕ → Option KeyValue
held_in s k = value_at s.versions (end_of s.revision) k

abbrev pub live_in : Store → KeyRange → List KeyValue
live_in s r = live s.versions (end_of s.revision) r

-- the live keys whose last put names the lease, and what they hold
abbrev pub leased_in : Store → ℤ → List KeyValue
leased_in s id = filter (λ kv. int_eq kv.lease id) (live_in s all_keys)

-- no revision comes after this one
abbrev pub is_spent : ℕ → Bool
is_spent revision = not (nat_lt revision last_main)

-- the number of changing calls behind one more, if that one changed something
abbrev pub stamp_after : Bool → ℕ → ℕ
stamp_after changed n = if changed then (n + 1) % 2 ^ 64 else n

-- one changing call later, if that one changed something
abbrev pub counted : Bool → CoreState → CoreState
counted changed s = record s { stamp = stamp_after changed s.stamp }

-- with the versions of the next revision, of which the watches take note
abbrev pub with_versions : CoreState → List Version → CoreState
with_versions s vs = record s {
  store = record s.store {
    versions = s.store.versions ++ vs;
    revision = s.store.revision + 1;
    watches = map (noted vs (s.store.revision + 1)) s.store.watches;
  };
}

-- with them, before the watches take note
abbrev pub with_unnoted : CoreState → List Version → CoreState
with_unnoted s vs = record s {
  store = record s.store {
    versions = s.store.versions ++ vs;
    revision = s.store.revision + 1;
  };
}

-- the watches take note of the versions above a revision, which are of the present one
abbrev pub noted_above : ℕ → CoreState → CoreState
noted_above n s = record s {
  store = record s.store {
    watches = map (noted (filter (λ v. nat_le (n + 1) v.rev.main) s.store.versions) s.store.revision) s.store.watches;
  };
}

-- with these watches, and otherwise as it was
abbrev pub with_watches : List Tracked → CoreState → CoreState
with_watches ts s = record s { store = record s.store { watches = ts } }

-- with these versions as the next revision, where there are some
abbrev pub with_any : CoreState → List Version → CoreState
with_any s [] = s
with_any s (v ∷ vs) = with_versions s (v ∷ vs)

-- the number that another rose to, where it did
abbrev pub raised_from : ℕ → ℕ → Option ℕ
raised_from before n = if nat_lt before n then Some n else None

-- ---- Put

-- the first refusal of a put, that of spent revisions last
abbrev pub fault_of_put : Store → PutRequest → Option Refusal
fault_of_put s p = option_or (option_or (put_fault p) (held_refusal (is_granted s.leases) p (held_in s p.key)))
    (refuse_if (is_spent s.revision) RevisionsSpent)

-- the version that a put adds
abbrev pub added_by_put : Store → PutRequest → Version
added_by_put s p = put_version (next_rev s.revision) p (held_in s p.key)

-- what an accepted put leaves
abbrev pub after_put : CoreState → PutRequest → CoreState
after_put s p = with_versions s (added_by_put s.store p ∷ [])

-- ---- DeleteRange

-- the first refusal of a delete, that of spent revisions where some key is live
abbrev pub fault_of_delete : Store → DeleteRequest → Option Refusal
fault_of_delete s d = option_or (refusal_of_delete d)
    (refuse_if (not (is_empty (live_in s d.range)) && is_spent s.revision) RevisionsSpent)

-- the versions that a delete adds
abbrev pub added_by_delete : Store → DeleteRequest → List Version
added_by_delete s d = tombstones (s.revision + 1) 0 (live_in s d.range)

-- what an accepted delete leaves: nothing has changed where no key was live
abbrev pub after_delete : CoreState → DeleteRequest → CoreState
after_delete s d = with_any s (added_by_delete s.store d)

-- ---- Txn

-- the first refusal of a transaction, that of spent revisions where it changes something
abbrev pub fault_of_txn : Store → Ops → Option Refusal
fault_of_txn s ops = option_or (static_fault ops) (option_or (refusal_of_path s (path_in s ops))
    (refuse_if (not (is_empty (changes_of_path s (path_in s ops))) && is_spent s.revision) RevisionsSpent))

-- what one that passes its check is refused for before more memory is asked for
abbrev pub at_once_of : Store → Ops → Option Refusal
at_once_of s ops = at_once (is_granted s.leases) s.compacted s.revision s.versions (end_of s.revision) ops

-- the versions that a transaction adds, each as its key stood before all of them
abbrev pub added_by_txn : Store → Ops → List Version
added_by_txn s ops = map (txns.next_version s.versions) (changes_of_path s (path_in s ops))

-- what an accepted transaction leaves: nothing has changed where it changes no key
abbrev pub after_txn : CoreState → Ops → CoreState
after_txn s ops = with_any s (added_by_txn s.store ops)

-- ---- Compact and trimming

-- what an accepted Compact leaves: trimming begins again at the oldest version
abbrev pub after_compact : CoreState → ℤ → CoreState
after_compact s r = record s { store = with_floor s.store (at_least_zero r); place = oldest_place }

-- a trimming step over what is kept
abbrev pub trim_of : CoreState → TrimStep
trim_of s = trimmed s.store.versions s.place s.store.compacted

-- what a step leaves, before it is counted
abbrev pub trimmed_by : CoreState → TrimStep → CoreState
trimmed_by s t = record s { store = record s.store { versions = t.versions }; place = t.place }

-- a version went
abbrev pub has_removed : Trimmed → Bool
has_removed (Trimmed.removed p) = true
has_removed (Trimmed.kept p) = false
has_removed (Trimmed.done n) = false

-- what is kept, as it is shown
abbrev pub dump_kept : Store → Dump
dump_kept s = record { floor = s.compacted; revision = s.revision; versions = s.versions }

-- what is kept, and what of it trimming has still to visit
abbrev pub keeping_of : CoreState → Keeping
keeping_of s = keeping s.store.versions s.place s.store.compacted

-- ---- watches

abbrev pub after_watch : CoreState → Watched → ℤ → ℤ → CoreState
after_watch s watched start id = record s { store = with_watch s.store (tracked_made s.store watched start id) }

-- ---- leases

-- with these leases
abbrev pub leased : CoreState → List Lease → CoreState
leased s ls = record s { store = with_leases s.store ls }

abbrev pub after_grant : CoreState → ℤ → ℤ → CoreState
after_grant s ttl id = leased s (insert_lease (granted_lease s.store ttl id) s.store.leases)

-- a renewed lease, where it is granted; else nothing has changed
abbrev pub after_keep_alive : CoreState → ℤ → CoreState
after_keep_alive s id = if is_granted s.store.leases id then leased s (renewed_leases s.store id) else s

-- the first refusal of a revoke, that of spent revisions where the lease has some key
abbrev pub fault_of_revoke : Store → ℤ → Option Refusal
fault_of_revoke s id = option_or (refusal_of_revoke s id)
    (refuse_if (not (is_empty (leased_in s id)) && is_spent s.revision) RevisionsSpent)

-- the versions that a revoke adds: the tombstones of the lease's keys
abbrev pub added_by_revoke : Store → ℤ → List Version
added_by_revoke s id = tombstones (s.revision + 1) 0 (leased_in s id)

-- what a revoke leaves: neither the lease nor its keys
abbrev pub after_revoke : CoreState → ℤ → CoreState
after_revoke s id = leased (with_any s (added_by_revoke s.store id)) (without_lease id s.store.leases)

abbrev pub after_moment : CoreState → ℕ → CoreState
after_moment s m = counted true (record s { store = at_store_moment s.store m })

-- the lease that expires next
abbrev pub due_in : Store → Option ℤ
due_in s = option_map (λ l. l.id) (due s.clock s.leases)

abbrev pub added_by_due : Store → Option ℤ → List Version
added_by_due s None = []
added_by_due s (Some id) = added_by_revoke s id

-- the versions that a step of expiry adds
abbrev pub added_by_expiry : Store → List Version
added_by_expiry s = added_by_due s (due_in s)

-- ---- what a sink is told

-- the versions that a call adds to the store
abbrev pub added_by : Store → Call → List Version
added_by s (Call.put p) = added_by_put s p ∷ []
added_by s (Call.delete d) = added_by_delete s d
added_by s (Call.txn compares success failure) = added_by_txn s (Ops.txn compares success failure Ops.no_ops)
added_by s (Call.revoke id) = added_by_revoke s id
added_by s _ = []

-- of these versions, from the first state of the sink to the second: one batch, and nothing where there are none
abbrev pub IsTold : {X : Type 0} → (X → Published → X → Type 0) → List Version → X → X → Type 0
IsTold takes [] old new = new ≡ old
IsTold takes (v ∷ vs) old new = takes old (Published.batch (v ∷ vs)) new

-- of what a call changes: the floor of a Compact, and else the versions that it adds
abbrev pub IsToldOf : {X : Type 0} → (X → Published → X → Type 0) → Store → Call → X → X → Type 0
IsToldOf takes s (Call.compact r physical) old new = takes old (Published.floor (at_least_zero r)) new
IsToldOf takes s call old new = IsTold takes (added_by s call) old new

-- the compaction after a call
abbrev pub floor_by : Store → Call → ℕ
floor_by s (Call.compact r physical) = at_least_zero r
floor_by s _ = s.compacted

-- what is kept, as readers beside the writer have it
abbrev pub tables_of : CoreState → Stored
tables_of s = stored_at s.store s.place
