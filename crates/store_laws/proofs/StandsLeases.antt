-- What the calls of leases are answered and change, told over a store that stands for the world.
use Rattle.std.proofs.Common.{◌≡◌, ◌≤◌, ◌+◌, ◌^◌, ℤ, List, length, map, Bool, not, Option, None, Some, Ok, filter, refl, sym, ◌∙◌, ap}
use Rattle.std.proofs.Common.{arith}
use Rattle.std.specs.Prelude.{nat_lt, nat_le, pos}
use Rattle.std.specs.Option.{option_or}
use Rattle.std.specs.Ordering.{int_eq}
use Rattle.kv_model.specs.declared.refusal.Refusal.TheVariants.{TtlTooLarge, LeaseExists, TooManyLeases, LeaseMissing}
use Rattle.kv_model.specs.Keys.{all_keys}
use Rattle.store_laws.specs.Sound.{IsBatch}
use Rattle.kv_model.specs.History.{end_of, KeyValue}
use Rattle.kv_model.specs.Ranges.{live, refuse_if}
use Rattle.kv_model.specs.Txns.{deletes_of, if_asked}
use Rattle.kv_model.specs.Calls.{Call}
use Rattle.kv_model.specs.Told.{Reply}
use Rattle.kv_model.specs.Leases.{Lease, is_granted, lease_at, id_asked, ttl_asked, deadline_of, longest_ttl, most_leases, insert_lease}
use Rattle.kv_model.specs.Leases.{without_lease, keys_of_lease, renewed, seconds_left, due}
use Rattle.kv_model.specs.World.{World, revision, versions, changed}
use Rattle.kv_model.specs.Step.{refused_or, commit_at, grant_in, revoke_in, keep_alive_in, time_to_live_in, made_in}
use Rattle.store_laws.specs.Stands.{Store, StandsFor, grown_noted}
use Rattle.store_laws.specs.Stores.{with_leases, refusal_of_grant, granted_lease, refusal_of_revoke, changes_of_revoke, renewed_leases}
use Rattle.store_laws.specs.Stores.{reply_of_time_to_live, reply_of_leases}
use Rattle.store_laws.proofs.DeleteLaws.{live-ascends, live-given, ascending-some, given-some, deletes-batch}
use Rattle.store_laws.proofs.StandsLaws.{store-given, live_stands}
use Rattle.store_laws.proofs.StandsCommands.{store-one}
use Rattle.store_laws.proofs.WatchLaws.{noted_stands}

-- ---- leases and moments change nothing else

pub leases_stand : (s : Store) (w : World) (ls : List Lease) → StandsFor s w → StandsFor (with_leases s ls) (record w { leases = ls })
leases_stand s w ls h = record {
  sound = record { history = h.sound.history; floor = h.sound.floor };
  good = h.good;
  revision_is = h.revision_is;
  compacted = h.compacted;
  leases = refl;
  clock = h.clock;
  made = h.made;
  watches = h.watches;
}

-- ---- the keys of a lease

pub keys_of_lease_stands : (s : Store) (w : World) → StandsFor s w → (id : ℤ) → keys_of_lease s.versions s.revision id
    ≡ keys_of_lease (versions w) (revision w) id
keys_of_lease_stands s w h id = ap (λ kvs. map (λ (kv : KeyValue). kv.key) (filter (λ kv. int_eq kv.lease id) kvs))
    (live_stands s w h all_keys)

pub revoke_batch : (s : Store) (w : World) → StandsFor s w → (id : ℤ) → length (keys_of_lease s.versions s.revision id) ≤ 2 ^ 64
    → IsBatch (s.revision + 1) (changes_of_revoke s id)
revoke_batch s w h id l =
    let one : 1 ≤ s.revision = store-one s w h in
    let kvs : List KeyValue = live s.versions (end_of s.revision) all_keys in
    deletes-batch (s.revision + 1) 0 (keys_of_lease s.versions s.revision id)
    (ascending-some (λ kv. int_eq kv.lease id) kvs (live-ascends s.versions (end_of s.revision) all_keys))
    (given-some (λ kv. int_eq kv.lease id) kvs (live-given s.versions (end_of s.revision) all_keys (store-given s w h))) (omega arith)
    (omega arith)

-- ---- the calls

pub grant_told : (s : Store) (w : World) → StandsFor s w → (ttl id : ℤ) → made_in w (Call.grant ttl id)
    ≡ refused_or (refusal_of_grant s ttl id) (Ok (
      Reply.grant (granted_lease s ttl id).id (granted_lease s ttl id).ttl,
      record w { leases = insert_lease (granted_lease s ttl id) s.leases },
    ))
unfolding grant_in
grant_told s w h ttl id = sym (λ i.
    let l : Lease = record { id = id_asked (h.leases i) id; ttl = ttl_asked ttl; deadline = deadline_of (h.clock i) (ttl_asked ttl) } in
    refused_or (option_or (refuse_if (nat_lt longest_ttl (ttl_asked ttl)) TtlTooLarge) (option_or (refuse_if (is_granted (h.leases i) id)
    LeaseExists) (refuse_if (nat_le most_leases (length (h.leases i))) TooManyLeases)))
    (Ok (Reply.grant l.id l.ttl, record w { leases = insert_lease l (h.leases i) })))

pub revoke_told : (s : Store) (w : World) → StandsFor s w → (id : ℤ) → made_in w (Call.revoke id)
    ≡ refused_or (refusal_of_revoke s id) (commit_at s.revision Reply.revoke (record w { leases = without_lease id s.leases })
    (changes_of_revoke s id))
unfolding revoke_in
revoke_told s w h id = sym (λ i. refused_or (refuse_if (not (is_granted (h.leases i) id)) LeaseMissing)
    (commit_at (h.revision_is i) Reply.revoke (record w { leases = without_lease id (h.leases i) }) (deletes_of (h.revision_is i + 1) 0
    (keys_of_lease_stands s w h id i))))

-- the store goes on standing for the world without the lease and its keys
pub revoke_stands : (s : Store) (w : World) → StandsFor s w → (id : ℤ) → length (keys_of_lease s.versions s.revision id) ≤ 2 ^ 64
    → StandsFor (grown_noted (with_leases s (without_lease id s.leases)) (changes_of_revoke s id))
    (changed (record w { leases = without_lease id s.leases }) (changes_of_revoke s id))
revoke_stands s w h id l = noted_stands (with_leases s (without_lease id s.leases)) (record w { leases = without_lease id s.leases })
    (leases_stand s w (without_lease id s.leases) h) (changes_of_revoke s id) (revoke_batch s w h id l)

pub lease_at_stands : (s : Store) (w : World) → StandsFor s w → (id : ℤ) → lease_at s.leases id ≡ lease_at w.leases id
lease_at_stands s w h id = ap (λ ls. lease_at ls id) h.leases

-- a lease that is not granted is answered with a time to live of 0
pub keep_alive_none : (s : Store) (w : World) → StandsFor s w → (id : ℤ) → lease_at s.leases id ≡ None → made_in w (Call.keep_alive id)
    ≡ Ok (Reply.keep_alive id 0, w)
unfolding keep_alive_in
keep_alive_none s w h id e = ap (keep_alive_in w id) (sym (lease_at_stands s w h id) ∙ e)

pub keep_alive_made : (s : Store) (w : World) → StandsFor s w → (id : ℤ) (l : Lease) → lease_at s.leases id ≡ Some l
    → made_in w (Call.keep_alive id) ≡ Ok (Reply.keep_alive id l.ttl, record w { leases = renewed_leases s id })
unfolding keep_alive_in
keep_alive_made s w h id l e = ap (keep_alive_in w id) (sym (lease_at_stands s w h id) ∙ e)
    ∙ sym (λ i. Ok (Reply.keep_alive id l.ttl, record w { leases = map (renewed (h.clock i) id) (h.leases i) }))

pub time_to_live_told : (s : Store) (w : World) → StandsFor s w → (id : ℤ) (asked : Bool)
    → made_in w (Call.time_to_live id asked) ≡ Ok (reply_of_time_to_live s id asked (lease_at s.leases id), w)
unfolding time_to_live_in
time_to_live_told s w h id asked = ap (time_to_live_in w id asked) (sym (lease_at_stands s w h id)) ∙ by (lease_at s.leases id)
  where
    by : (o : Option Lease) → time_to_live_in w id asked o ≡ Ok (reply_of_time_to_live s id asked o, w)
    by None = refl
    by (Some l) = sym (λ i. Ok (
      Reply.time_to_live id (pos (seconds_left (h.clock i) l)) l.ttl
          (if_asked asked (keys_of_lease_stands s w h id i)),
      w,
    ))

pub leases_told : (s : Store) (w : World) → StandsFor s w → made_in w Call.leases ≡ Ok (reply_of_leases s, w)
leases_told s w h = sym (λ i. Ok (Reply.leases (map (λ (l : Lease). l.id) (h.leases i)), w))

-- the lease that is due is the store's
pub due_stands : (s : Store) (w : World) → StandsFor s w → due s.clock s.leases ≡ due w.clock w.leases
due_stands s w h = λ i. due (h.clock i) (h.leases i)
