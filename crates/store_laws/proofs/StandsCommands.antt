-- What a Range, a Put and a DeleteRange are answered and what they change, told over a store that stands for the world.
use Rattle.std.proofs.Common.{◌≡◌, ◌≤◌, ◌<◌, ◌≢◌, ◌+◌, ◌^◌, List, [], ◌∷◌, length, None, Some, Ok, Err, refl, sym, ◌∙◌, ap}
use Rattle.std.proofs.Common.{arith}
use Rattle.std.specs.Option.{option_or}
use Rattle.kv_model.specs.declared.call.RangeQuery.{RangeQuery}
use Rattle.kv_model.specs.declared.call.PutRequest.{PutRequest}
use Rattle.kv_model.specs.declared.call.DeleteRequest.{DeleteRequest}
use Rattle.kv_model.specs.declared.refusal.Refusal.{Refusal}
use Rattle.kv_model.specs.declared.refusal.Refusal.TheVariants.{NoKey}
use Rattle.kv_model.specs.Lists.{is_empty}
use Rattle.kv_model.specs.History.{end_of, KeyValue}
use Rattle.store_laws.specs.Sound.{IsBatch}
use Rattle.kv_model.specs.Ranges.{live, keys_of, range_reply, refuse_if, unless_refused}
use Rattle.kv_model.specs.Txns.{put_fault, deletes_of, delete_changes, previous_value, if_asked}
use Rattle.kv_model.specs.Calls.{Call}
use Rattle.kv_model.specs.Told.{Reply}
use Rattle.kv_model.specs.World.{World, revision, versions, changed}
use Rattle.kv_model.specs.Step.{refused_or, commit_at, range_in, put_in, delete_in, made_in, answer_of, world_of, perform}
use Rattle.store_laws.specs.Stands.{Store, StandsFor, grown_noted}
use Rattle.store_laws.specs.Stores.{refusal_of_range, reply_of_range, refusal_of_put, reply_of_put, changes_of_put, refusal_of_delete}
use Rattle.store_laws.specs.Stores.{reply_of_delete, changes_of_delete}
use Rattle.store_laws.proofs.PlaceLaws.{now-above}
use Rattle.std.proofs.lemmas.List.{length-map}
use Rattle.store_laws.proofs.DeleteLaws.{live-ascends, live-given, deletes-batch}
use Rattle.store_laws.proofs.StandsLaws.{store-given, value_stands, live_stands, live_now_is, range_answer_stands}
use Rattle.store_laws.proofs.StandsLaws.{range_refusal_stands, put_refusal_stands, put_change_stands, delete_changes_stands}
use Rattle.store_laws.proofs.WatchLaws.{noted_stands}
use Rattle.store_laws.proofs.GoodLaws.{or-none-first}

-- ---- Range

-- where it is not refused, the reply is the whole history's
pub range_reply_stands : (s : Store) (w : World) → StandsFor s w → (q : RangeQuery) → refusal_of_range s q ≡ None
    → range_reply s.versions s.revision (end_of s.revision) q
    ≡ range_reply (versions w) (revision w) (end_of (revision w)) q
range_reply_stands s w h q e =
    let same : unless_refused None (range_reply s.versions s.revision (end_of s.revision) q)
    ≡ unless_refused None (range_reply (versions w) (revision w) (end_of (revision w)) q)
    = sym (ap (λ o. unless_refused o (range_reply s.versions s.revision (end_of s.revision) q)) e) ∙ range_answer_stands s w h q
    ∙ ap (λ o. unless_refused o (range_reply (versions w) (revision w) (end_of (revision w)) q))
    (sym (range_refusal_stands s w h q) ∙ e) in cc

pub range_made : (s : Store) (w : World) → StandsFor s w → (q : RangeQuery) → refusal_of_range s q ≡ None → made_in w (Call.range q)
    ≡ Ok (reply_of_range s q, w)
unfolding range_in
range_made s w h q e =
    ap (λ o. refused_or o (Ok (Reply.range (range_reply (versions w) (revision w) (end_of (revision w)) q), w)))
    (sym (range_refusal_stands s w h q) ∙ e)
    ∙ ap (λ r. Ok (Reply.range r, w)) (sym (range_reply_stands s w h q e))

pub range_refused : (s : Store) (w : World) → StandsFor s w → (q : RangeQuery) (e : Refusal) → refusal_of_range s q ≡ Some e
    → made_in w (Call.range q) ≡ Err e
unfolding range_in
range_refused s w h q e is = ap (λ o. refused_or o (Ok (
  Reply.range (range_reply (versions w) (revision w) (end_of (revision w))
      q),
  w,
))) (sym (range_refusal_stands s w h q) ∙ is)

-- ---- Put

-- a put, whatever comes of it
pub put_told : (s : Store) (w : World) → StandsFor s w → (p : PutRequest)
    → made_in w (Call.put p) ≡ refused_or (refusal_of_put s p) (commit_at s.revision (reply_of_put s p) w (changes_of_put s p))
unfolding put_in
put_told s w h p = sym (λ i. refused_or (option_or (put_fault p) (put_refusal_stands s w h p i))
    (commit_at (h.revision_is i) (Reply.put (previous_value p.prev_kv (value_stands s w h p.key i))) w (put_change_stands s w h 0 p i
    ∷ [])))

-- what is not refused has a key
pub put_has_key : (s : Store) (p : PutRequest) → refusal_of_put s p ≡ None → p.key ≢ []
put_has_key s p e none =
    let fault : put_fault p ≡ None = or-none-first (put_fault p) _ e in
    let empty : refuse_if (is_empty p.key) NoKey ≡ None = or-none-first (refuse_if (is_empty p.key) NoKey) _ fault in
    let bad : Some NoKey ≡ None = ap (λ k. refuse_if (is_empty k) NoKey) (sym none) ∙ empty in cc

pub store-one : (s : Store) (w : World) → StandsFor s w → 1 ≤ s.revision
store-one s w h = omega (arith, now-above w.mutations h.sound.history, h.revision_is)

pub put_batch : (s : Store) (w : World) → StandsFor s w → (p : PutRequest) → p.key ≢ [] → IsBatch (s.revision + 1) (changes_of_put s p)
put_batch s w h p k =
    let one : 1 ≤ s.revision = store-one s w h in
    record { history = (record { behind = omega arith; number = omega arith; has_key = k }, tt, tt); at = (refl, tt) }

-- the store goes on standing for the world after a put
pub put_stands : (s : Store) (w : World) → StandsFor s w → (p : PutRequest) → p.key ≢ []
    → StandsFor (grown_noted s (changes_of_put s p)) (changed w (changes_of_put s p))
put_stands s w h p k = noted_stands s w h (changes_of_put s p) (put_batch s w h p k)

-- ---- DeleteRange

delete_changes_is : (s : Store) (w : World) → StandsFor s w → (d : DeleteRequest) → changes_of_delete s d
    ≡ delete_changes (versions w) (revision w + 1) 0 d
delete_changes_is s w h d = ap (λ kvs. deletes_of (s.revision + 1) 0 (keys_of kvs)) (sym (live_now_is s w h d.range))
    ∙ delete_changes_stands s w h 0 d

-- a delete, whatever comes of it
pub delete_told : (s : Store) (w : World) → StandsFor s w → (d : DeleteRequest)
    → made_in w (Call.delete d) ≡ refused_or (refusal_of_delete d) (commit_at s.revision (reply_of_delete s d) w (changes_of_delete s d))
unfolding delete_in
delete_told s w h d = sym (λ i. refused_or (refusal_of_delete d)
    (commit_at (h.revision_is i) (Reply.delete (length (live_stands s w h d.range i)) (if_asked d.prev_kv (live_stands s w h d.range i))) w
    (delete_changes_is s w h d i)))

pub delete_batch : (s : Store) (w : World) → StandsFor s w → (d : DeleteRequest)
    → length (live s.versions (end_of s.revision) d.range) ≤ 2 ^ 64 → IsBatch (s.revision + 1) (changes_of_delete s d)
delete_batch s w h d l =
    let one : 1 ≤ s.revision = store-one s w h in
    let kvs : List KeyValue = live s.versions (end_of s.revision) d.range in
    deletes-batch (s.revision + 1) 0 (keys_of kvs) (live-ascends s.versions (end_of s.revision) d.range)
    (live-given s.versions (end_of s.revision) d.range (store-given s w h)) (omega arith)
    (omega (arith, length-map kvs (λ (kv : KeyValue). kv.key)))

-- the store goes on standing for the world after a delete
pub delete_stands : (s : Store) (w : World) → StandsFor s w → (d : DeleteRequest)
    → length (live s.versions (end_of s.revision) d.range) ≤ 2 ^ 64
    → StandsFor (grown_noted s (changes_of_delete s d)) (changed w (changes_of_delete s d))
delete_stands s w h d l = noted_stands s w h (changes_of_delete s d) (delete_batch s w h d l)

-- ---- what is answered

pub answer_refused : (w : World) (call : Call) (e : Refusal) → made_in w call ≡ Err e → perform w call ≡ (Err e, w)
answer_refused w call e made = ap (λ m. (answer_of m, world_of w m)) made
