-- What a store that stands for a world may say of it.
use Rattle.std.proofs.Common.{◌≡◌, ◌≢◌, ℕ, ◌+◌, List, [], map, ◌&&◌, ◌||◌, not, sym, ◌∙◌, ap, subst}
use Rattle.std.specs.Prelude.{pos, is_none}
use Rattle.std.specs.Option.{option_or}
use Rattle.std.specs.Ordering.{int_eq}
use Rattle.std.specs.List.{AllByRecursion}
use Rattle.std.proofs.lemmas.List.Sums.{fold-append}
use Rattle.kv_model.specs.declared.version.KeyRange.{KeyRange}
use Rattle.kv_model.specs.declared.call.RangeQuery.{RangeQuery}
use Rattle.kv_model.specs.declared.call.PutRequest.{PutRequest}
use Rattle.kv_model.specs.declared.call.DeleteRequest.{DeleteRequest}
use Rattle.kv_model.specs.declared.refusal.Refusal.TheVariants.{KeyMissing, LeaseMissing}
use Rattle.kv_model.specs.History.{Mutation, now_after, value_at, value_now, end_of, KeyValue}
use Rattle.store_laws.specs.Sound.{IsChange}
use Rattle.kv_model.specs.Ranges.{live, live_now, range_answer, range_refusal, refuse_if}
use Rattle.kv_model.specs.Txns.{put_change, put_action, put_refusal, delete_changes, deletes_of}
use Rattle.kv_model.specs.Leases.{is_granted}
use Rattle.kv_model.specs.World.{World, revision, versions, changed}
use Rattle.store_laws.specs.Stands.{Store, StandsFor, grown_noted}
use Rattle.store_laws.proofs.PlaceLaws.{AreBy, each-map, each-part, each-dressed, each-change, value_at-by}
use Rattle.store_laws.proofs.GoodLaws.{dressed-by, part-by, now-kept, good-value_at, good-value_now, good-live, good-range_answer}
use Rattle.store_laws.proofs.GoodLaws.{live_now-by}

-- ---- what is read

-- no version is behind the store's revision
pub store-by : (s : Store) (w : World) → StandsFor s w → AreBy (end_of s.revision) s.versions
store-by s w h = subst (λ r. AreBy (end_of r) s.versions) (sym h.revision_is) (part-by s.versions w.mutations h.good.part h.sound.history)

-- no version has an empty key
pub store-given : (s : Store) (w : World) → StandsFor s w → AllByRecursion (λ v. v.key ≢ []) s.versions
store-given s w h = each-part (λ v. v.key ≢ []) h.good.part
    (each-dressed (λ p k. k ≢ []) w.mutations (each-map IsChange (λ m. m.key ≢ []) (λ m c. c.has_key) w.mutations (each-change w.mutations
    h.sound.history)))

-- what each key holds
pub value_stands : (s : Store) (w : World) → StandsFor s w → (k : List ℕ) → value_at s.versions (end_of s.revision) k
    ≡ value_at (versions w) (end_of (revision w)) k
value_stands s w h k = ap (λ r. value_at s.versions (end_of r) k) h.revision_is
    ∙ good-value_at s.versions w.mutations w.compacted (revision w) k h.good h.sound.history (now-kept w.mutations w.compacted
    h.sound.history h.sound.floor)

-- what each key holds, found without a place
pub value_now_stands : (s : Store) (w : World) → StandsFor s w → (k : List ℕ) → value_now s.versions k ≡ value_now (versions w) k
value_now_stands s w h k = good-value_now s.versions w.mutations w.compacted k h.good h.sound.history h.sound.floor

-- a store holds of a key at its revision what it holds last
pub value_now_is : (s : Store) (w : World) → StandsFor s w → (k : List ℕ) → value_now s.versions k
    ≡ value_at s.versions (end_of s.revision) k
value_now_is s w h k = sym (value_at-by s.versions (end_of s.revision) k (store-by s w h))

pub live_stands : (s : Store) (w : World) → StandsFor s w → (r : KeyRange) → live s.versions (end_of s.revision) r
    ≡ live (versions w) (end_of (revision w)) r
live_stands s w h r = ap (λ n. live s.versions (end_of n) r) h.revision_is
    ∙ good-live s.versions w.mutations w.compacted (revision w) r h.good h.sound.history (now-kept w.mutations w.compacted h.sound.history
    h.sound.floor)

pub live_now_is : (s : Store) (w : World) → StandsFor s w → (r : KeyRange) → live_now s.versions r ≡ live s.versions (end_of s.revision) r
live_now_is s w h r = live_now-by s.versions (end_of s.revision) r (store-by s w h)

pub live_now_stands : (s : Store) (w : World) → StandsFor s w → (r : KeyRange) → live_now s.versions r ≡ live_now (versions w) r
live_now_stands s w h r = live_now_is s w h r ∙ live_stands s w h r
    ∙ sym (live_now-by (versions w) (end_of (revision w)) r (dressed-by w.mutations h.sound.history))

-- each read is answered as from the whole history
pub range_answer_stands : (s : Store) (w : World) → StandsFor s w → (q : RangeQuery)
    → range_answer s.versions s.compacted s.revision (end_of s.revision) q
    ≡ range_answer (versions w) w.compacted (revision w) (end_of (revision w)) q
range_answer_stands s w h q = (λ i. range_answer s.versions (h.compacted i) (h.revision_is i) (end_of (h.revision_is i)) q)
    ∙ good-range_answer s.versions w.mutations w.compacted q h.good h.sound.history h.sound.floor

pub range_refusal_stands : (s : Store) (w : World) → StandsFor s w → (q : RangeQuery) → range_refusal s.compacted s.revision q
    ≡ range_refusal w.compacted (revision w) q
range_refusal_stands s w h q = λ i. range_refusal (h.compacted i) (h.revision_is i) q

-- ---- what changes

pub put_refusal_stands : (s : Store) (w : World) → StandsFor s w → (p : PutRequest) → put_refusal (is_granted s.leases) s.versions p
    ≡ put_refusal (is_granted w.leases) (versions w) p
put_refusal_stands s w h p = λ i. option_or (refuse_if ((p.ignore_value || p.ignore_lease) && is_none (value_now_stands s w h p.key i))
    KeyMissing)
    (refuse_if (not (int_eq p.lease (pos 0)) && not (is_granted (h.leases i) p.lease)) LeaseMissing)

pub put_change_stands : (s : Store) (w : World) → StandsFor s w → (sub : ℕ) (p : PutRequest) → put_change s.versions (s.revision + 1) sub p
    ≡ put_change (versions w) (revision w + 1) sub p
put_change_stands s w h sub p = λ i. record {
  rev = record { main = h.revision_is i + 1; sub = sub };
  key = p.key;
  action = put_action p (value_now_stands s w h p.key i);
}

pub delete_changes_stands : (s : Store) (w : World) → StandsFor s w → (sub : ℕ) (d : DeleteRequest)
    → delete_changes s.versions (s.revision + 1) sub d ≡ delete_changes (versions w) (revision w + 1) sub d
delete_changes_stands s w h sub d = λ i. deletes_of (h.revision_is i + 1) sub (map (λ (kv : KeyValue). kv.key)
    (live_now_stands s w h d.range i))

-- ---- what a store grows to

-- the revision that a store grows to is the world's
pub grown_revision : (s : Store) (w : World) → StandsFor s w → (us : List Mutation) → (grown_noted s us).revision ≡ revision (changed w us)
grown_revision s w h us = ap (λ r. now_after r us) h.revision_is ∙ sym (fold-append (λ _ (m : Mutation). m.rev.main) 1 w.mutations us)
