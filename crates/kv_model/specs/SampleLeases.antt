-- Worked rows of leases.
use Rattle.std.specs.Prelude.{◌≡◌, refl, ℕ, ℤ, pos, negsuc, List, [], ◌∷◌, true, false}
use Rattle.kv_model.specs.declared.call.PutRequest.{PutRequest}
use Rattle.kv_model.specs.declared.refusal.Refusal.TheVariants.{LeaseMissing, LeaseExists, LeaseGiven, TtlTooLarge}
use Rattle.kv_model.specs.Ranges.{plain_range}
use Rattle.kv_model.specs.Calls.{Call}
use Rattle.kv_model.specs.World.{opening}
use Rattle.kv_model.specs.Told.{Reply, Expiry}
use Rattle.kv_model.specs.SampleRuns.{Event, Told, told_by}
use Rattle.kv_model.specs.OnLiterals.{model_on_literals}
use Rattle.kv_model.specs.Samples.{a, b, c, one, two, put_of, put_event, range_event, told, refused, put_reply, kv_of}
use Rattle.kv_model.specs.Samples.{found, told_after}

abbrev pub grant_event : ℤ → ℤ → Event
grant_event ttl id = Event.command (Call.grant ttl id)

abbrev pub leased_put : List ℕ → ℤ → Event
leased_put k id = Event.command (Call.put (record (put_of k one) { lease = id }))

-- ---- a lease and its keys: a later put without it detaches one

abbrev pub leased : List Event
leased = Event.moment 1000 ∷ grant_event (pos 10) (pos 7) ∷ leased_put a (pos 7) ∷ leased_put b (pos 7)
    ∷ put_event b one ∷ leased_put c (pos 7) ∷ []

pub granted : told_by opening (Event.moment 1000 ∷ grant_event (pos 10) (pos 7) ∷ leased_put a (pos 7) ∷ [])
    ≡ Told.clock 1000 ∷ told 1 (Reply.grant (pos 7) 10) ∷ put_reply 2 ∷ []
unfolding model_on_literals
granted = refl

pub lease_runs_out : told_after leased
    (Event.command (Call.time_to_live (pos 7) true) ∷ Event.moment 10999 ∷ Event.expire ∷ Event.moment 11000
    ∷ Event.expire
    ∷ Event.command (Call.keep_alive (pos 7)) ∷ Event.command (Call.time_to_live (pos 7) false)
    ∷ Event.command (Call.revoke (pos 7)) ∷ [])
    ≡ told 5 (Reply.time_to_live (pos 7) (pos 10) 10 (a ∷ c ∷ [])) ∷ Told.clock 10999 ∷ Told.expiry Expiry.nothing
    ∷ Told.clock 11000 ∷ Told.expiry (Expiry.expired (pos 7) 6 true)
    ∷ told 6 (Reply.keep_alive (pos 7) 0) ∷ told 6 (Reply.time_to_live (pos 7) (negsuc 0) 0 []) ∷ refused LeaseMissing
    ∷ []
unfolding model_on_literals
lease_runs_out = refl

-- a lease past its deadline works until it is revoked, and a KeepAlive sets its deadline anew
pub renewed_late : told_after leased (Event.moment 20000 ∷ Event.command (Call.keep_alive (pos 7)) ∷ Event.expire
    ∷ Event.command (Call.time_to_live (pos 7) false) ∷ [])
    ≡ Told.clock 20000 ∷ told 5 (Reply.keep_alive (pos 7) 10) ∷ Told.expiry Expiry.nothing
    ∷ told 5 (Reply.time_to_live (pos 7) (pos 10) 10 []) ∷ []
unfolding model_on_literals
renewed_late = refl

-- ---- IDs, and times to live

abbrev pub three_leases : List Event
three_leases = grant_event (pos 0) (pos 0) ∷ grant_event (pos 5) (pos 2) ∷ grant_event (pos 0) (pos 0) ∷ []

-- ID 0 picks the least that is free, and a time to live below 1 counts as 1
pub ids_picked : told_by opening three_leases ≡ told 1 (Reply.grant (pos 1) 1) ∷ told 1 (Reply.grant (pos 2) 5)
    ∷ told 1 (Reply.grant (pos 3) 1) ∷ []
unfolding model_on_literals
ids_picked = refl

pub grants_refused : told_after three_leases (grant_event (pos 0) (pos 2) ∷ grant_event (pos 9_000_000_001) (pos 2)
    ∷ Event.command Call.leases ∷ [])
    ≡ refused LeaseExists ∷ refused TtlTooLarge ∷ told 1 (Reply.leases (pos 1 ∷ pos 2 ∷ pos 3 ∷ [])) ∷ []
unfolding model_on_literals
grants_refused = refl

-- they expire by deadline and then by ID, and without keys the revision stays; the clock never goes back
pub expired_in_order : told_after three_leases (Event.moment 1000 ∷ Event.expire ∷ Event.expire ∷ Event.expire
    ∷ Event.moment 500 ∷ leased_put a (pos 3) ∷ [])
    ≡ Told.clock 1000 ∷ Told.expiry (Expiry.expired (pos 1) 1 false) ∷ Told.expiry (Expiry.expired (pos 3) 1 false)
    ∷ Told.expiry Expiry.nothing ∷ Told.clock 1000 ∷ refused LeaseMissing ∷ []
unfolding model_on_literals
expired_in_order = refl

-- ---- a put that keeps its lease

abbrev pub keep_lease : PutRequest
keep_lease = record (put_of a two) { ignore_lease = true }

pub lease_kept : told_after leased (Event.command (Call.put (record keep_lease { lease = pos 7 }))
    ∷ Event.command (Call.put keep_lease) ∷ range_event (plain_range a 0) ∷ [])
    ≡ refused LeaseGiven ∷ put_reply 6 ∷ found 6 (record (kv_of a two 2 6 2) { lease = pos 7 } ∷ []) 1 false ∷ []
unfolding model_on_literals
lease_kept = refl
