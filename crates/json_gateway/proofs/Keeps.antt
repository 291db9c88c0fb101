-- What is kept after a command, a request and any other event of a run.
use Rattle.std.proofs.Common.{◌≡◌, ℕ, ◌&&◌, List, Bool, true, false, Option, None, Some, Result, Ok, Err, refl, ◌∙◌, ap, subst}
use Rattle.std.specs.Prelude.{is_none, MatchBool, ⊤}
use Rattle.kv_model.specs.declared.ids.Ids.{Ids}
use Rattle.kv_model.specs.declared.refusal.Refusal.{Refusal}
use Rattle.kv_model.specs.Answers.{Fault, Response, response_to}
use Rattle.kv_model.specs.Calls.{Call}
use Rattle.kv_model.specs.Headline.{kept_after}
use Rattle.kv_model.specs.Leases.{Lease, due}
use Rattle.kv_model.specs.Requests as requests
use Rattle.kv_model.specs.Requests.{Read, request_of}
use Rattle.kv_model.specs.Step.{Made, answer_of as answer_of_made, compact_in, compact_refusal, expire, expire_at, expiry_of, perform, refused_or}
use Rattle.kv_model.specs.Step.{at_least_zero, revoke_in, world_of, made_in}
use Rattle.kv_model.specs.Told.{Expiry as ModelExpiry, Reply}
use Rattle.kv_model.specs.Watches.{Delivery, after_delivery}
use Rattle.kv_model.specs.Wire.{is_physical_call, post_call, reply_to}
use Rattle.kv_model.specs.World.{World, revision}
use Rattle.store_laws.specs.Stands.{StandsFor, Tracked}
use Rattle.store_laws.proofs.KeepingLaws.{rests_kept}
use Rattle.gateway_read.specs.declared.bad.Bad.{Bad}
use Rattle.gateway_read.specs.declared.bad.Bad.TheVariants.{NotJson, BadField, BadBase64, NoPath, TooLong, Memory}
use Rattle.gateway_read.specs.Fields.{snake_of}
use Rattle.gateway_read.specs.Reading.{Fails}
use Rattle.request_core.specs.declared.answer.Receipt.{Receipt}
use Rattle.request_core.specs.Answers.{has_changed, is_memory}
use Rattle.request_core.specs.Commands.{Does, first_refusal}
use Rattle.request_core.specs.Commands as core
use Rattle.request_core.specs.State.{CoreState, keeping_of, with_watches}
use Rattle.json_gateway.specs.declared.outcome.Settled.{Settled}
use Rattle.json_gateway.specs.declared.outcome.Settled.TheVariants as settled
use Rattle.json_gateway.specs.Endings.{KeepsAs, Refuses, Settles, is_want}

-- ---- commands

pub accepted_keeps : (old new : CoreState) (r : Receipt) (call : Call) (s : Settled) (a : Response) → Does old new call r
    → Settles s a (has_changed r) r.revision → (w : World) → StandsFor old.store w → KeepsAs s old new w (perform w call).1
accepted_keeps old new r call (settled.Reply p) a d e w h = (d.accepted w h).keeps
accepted_keeps old new r call settled.Memory a d e w h = d.unchanged e
accepted_keeps old new r call (settled.Lost n) a d e w h = (d.accepted w h).keeps

-- a command that the model refuses leaves the world
refused-rests : (w : World) (m : Made) (e : Refusal) → first_refusal (answer_of_made m) ≡ Some e → world_of w m ≡ w
refused-rests w (Ok m) e h = cc
refused-rests w (Err f) e h = refl

-- where neither the core nor the world moves, what is kept does not
pub same_kept : (old new : CoreState) (w u : World) → new ≡ old → u ≡ w → keeping_of new ≡ kept_after w u (keeping_of old)
same_kept old new w u same rests = ap keeping_of same
    ∙ rests_kept w u (keeping_of old) (ap (λ (x : World). x.mutations) rests) (ap (λ (x : World). x.compacted) rests)

pub refused_keeps : (never : Type 0) (old new : CoreState) (call : Call) (e : Refusal) (s : Settled) (f : Fault) → core.RefusesTo never old new call e
    → Refuses s (is_memory e) f → (w : World) → StandsFor old.store w → KeepsAs s old new w (perform w call).1
refused_keeps never old new call e (settled.Reply p) f d g w h =
    let told : first_refusal (perform w call).0 ≡ Some e
    = subst (λ b. MatchBool b ⊤ (first_refusal (perform w call).0 ≡ Some e)) g.0 (d.refused w h) in
    same_kept old new w (perform w call).1 d.kept (refused-rests w (made_in w call) e told)
refused_keeps never old new call e settled.Memory f d g w h = d.kept
refused_keeps never old new call e (settled.Lost n) f d g w h = absurd g

-- ---- requests that are not read

read-failed : (e : Bad) (r : Read Call) → is_want e ≡ false → Fails e r → (x : requests.Bad) × (r ≡ Err x)
read-failed NotJson r e h = (requests.not_json, h)
read-failed (BadField f) r e h = (requests.bad_field (snake_of f), h)
read-failed (BadBase64 f) r e h = (requests.bad_base64 (snake_of f), h)
read-failed NoPath r e h = (requests.no_path, h)
read-failed TooLong r e h = (requests.too_long, h)
read-failed Memory r e h = cc

pub dismissed_keeps : (ids : Ids) (path body : List ℕ) (old : CoreState) (e : Bad) (s : Settled) (f : Fault) → Fails e (request_of path body)
    → Refuses s (is_want e) f → (w : World) → KeepsAs s old old w (reply_to ids w path body).1
dismissed_keeps ids path body old e (settled.Reply p) f h g w =
    let bad = read-failed e (request_of path body) g.0 h in
    same_kept old old w (reply_to ids w path body).1 refl (ap (λ (r : Result Call requests.Bad). (post_call ids w r).1) bad.1)
dismissed_keeps ids path body old e settled.Memory f h g w = refl
dismissed_keeps ids path body old e (settled.Lost n) f h g w = absurd g

-- ---- a Compact that waits is answered as accepted

pub waiting_accepted : (ids : Ids) (w : World) (r : Result Call requests.Bad) → is_physical_call w r ≡ true → (post_call ids w r).0.status ≡ 200
unfolding compact_in
waiting_accepted ids w (Err e) h = cc
waiting_accepted ids w (Ok (Call.compact r physical)) h = by physical (compact_refusal w.compacted (revision w) r) h
  where
    by : (b : Bool) (o : Option Refusal) → (b && is_none o) ≡ true
        → (response_to ids (answer_of_made (refused_or o (Ok (Reply.compact, record w { compacted = at_least_zero r }))))).status ≡ 200
    by b None e = refl
    by true (Some x) e = cc
    by false (Some x) e = cc
waiting_accepted ids w (Ok (Call.range q)) h = cc
waiting_accepted ids w (Ok (Call.put p)) h = cc
waiting_accepted ids w (Ok (Call.delete d)) h = cc
waiting_accepted ids w (Ok (Call.txn cs s f)) h = cc
waiting_accepted ids w (Ok (Call.watch watched start id)) h = cc
waiting_accepted ids w (Ok (Call.grant ttl id)) h = cc
waiting_accepted ids w (Ok (Call.revoke id)) h = cc
waiting_accepted ids w (Ok (Call.keep_alive id)) h = cc
waiting_accepted ids w (Ok (Call.time_to_live id asked)) h = cc
waiting_accepted ids w (Ok Call.leases) h = cc

-- ---- other events

-- a step of expiry for which no revision is left leaves the world
pub spent_rests : (w : World) → (expire w).0 ≡ ModelExpiry.spent → (expire w).1 ≡ w
spent_rests w = at (due w.clock w.leases)
  where
    of : (id : _) (m : Made) → (expiry_of id w m).0 ≡ ModelExpiry.spent → (expiry_of id w m).1 ≡ w
    of id (Ok made) e = cc
    of id (Err f) e = refl

    at : (o : Option Lease) → (expire_at w o).0 ≡ ModelExpiry.spent → (expire_at w o).1 ≡ w
    at None e = refl
    at (Some l) e = of l.id (revoke_in w l.id) e

-- a delivery moves neither the history nor the compaction
pub delivery_rests : (w : World) (n : ℕ) (d : Delivery) → ((after_delivery w n d).mutations ≡ w.mutations)
    × ((after_delivery w n d).compacted ≡ w.compacted)
delivery_rests w n Delivery.no_watch = (refl, refl)
delivery_rests w n Delivery.nothing = (refl, refl)
delivery_rests w n (Delivery.events es) = (refl, refl)
delivery_rests w n (Delivery.cancelled c) = (refl, refl)

-- where the watches alone have changed, what is kept has not
pub watches_keep : (old new : CoreState) (w u : World) (ts : List Tracked) → new ≡ with_watches ts old → u.mutations ≡ w.mutations
    → u.compacted ≡ w.compacted → keeping_of new ≡ kept_after w u (keeping_of old)
watches_keep old new w u ts same e f = ap keeping_of same ∙ rests_kept w u (keeping_of old) e f
