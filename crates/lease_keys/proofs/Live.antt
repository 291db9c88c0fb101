-- The live keys of a lease, as the index finds them.
use Rattle.std.proofs.Common.{◌≡◌, ℕ, ℤ, List, [], ◌∷◌, Bool, true, false, ◌&&◌, cond, Option, None, Some, is_some, map, filter, filter_map}
use Rattle.std.proofs.Common.{refl, sym, ◌∙◌, ap, subst}
use Rattle.std.specs.List.{cons_option}
use Rattle.std.specs.Ordering.{int_eq}
use Rattle.kv_model.specs.declared.version.Rev.{Rev}
use Rattle.kv_model.specs.declared.version.Version.{Version}
use Rattle.kv_model.specs.Keys.{all_keys}
use Rattle.kv_model.specs.History.{KeyValue, value_at}
use Rattle.store_laws.specs.Laws.{IsStrictlyAscending}
use Rattle.kv_model.specs.Ranges.{keys, keys_of, live, value_within}
use Rattle.store_laws.proofs.KeyLaws.{IsAscending, ascending-filter, ascending-keys, has_key, has_key-filter, mapped-filter, same_keys}
use Rattle.store_laws.proofs.KeyLaws.{value-has_key}
use Rattle.store_laws.proofs.DeleteLaws.{mapped-keys, value_at-key}
use Rattle.range_view.specs.declared.reply.KvRef.{KvRef}
use Rattle.range_view.specs.Replies.{kv_view}
use Rattle.lease_keys.specs.Pairs.{Pairs, keys_at}
use Rattle.lease_keys.specs.Holding.{is_lease, under, Holds}
use Rattle.lease_keys.proofs.Holding.{same-lease}

module _ (l : ℤ) where
  filter-under : (g : List ℕ → Option KeyValue) (ks : List (List ℕ))
      → filter (λ kv. int_eq kv.lease l) (filter_map g ks) ≡ filter_map (λ k. under l (g k)) ks
  filter-under g [] = refl
  filter-under g (k ∷ ks) = by (g k) (filter-under g ks)
    where
      kept : (kv : KeyValue) (b : Bool) (xs ys : List KeyValue) → xs ≡ ys → cond b (kv ∷ xs) xs ≡ cons_option (cond b (Some kv) None) ys
      kept kv true xs ys e = ap (λ zs. kv ∷ zs) e
      kept kv false xs ys e = e

      by : (o : Option KeyValue) → filter (λ kv. int_eq kv.lease l) (filter_map g ks) ≡ filter_map (λ k. under l (g k)) ks
          → filter (λ kv. int_eq kv.lease l) (cons_option o (filter_map g ks))
          ≡ cons_option (under l o) (filter_map (λ k. under l (g k)) ks)
      by None rest = rest
      by (Some kv) rest = kept kv (int_eq kv.lease l) (filter (λ kv. int_eq kv.lease l) (filter_map g ks))
          (filter_map (λ k. under l (g k)) ks) rest

  -- a walk over all keys
  pub leased-walked : (vs : List Version) (p : Rev)
      → filter (λ kv. int_eq kv.lease l) (live vs p all_keys) ≡ filter_map (λ k. under l (value_at vs p k)) (keys vs)
  unfolding live
  leased-walked vs p = filter-under (value_within vs p all_keys) (keys vs)

  under-some : (o : Option KeyValue) → is_some (under l o) ≡ true → (kv : KeyValue) × (o ≡ Some kv) × (int_eq kv.lease l ≡ true)
  under-some None h = cc
  under-some (Some kv) h = (kv, refl, by (int_eq kv.lease l) h)
    where
      by : (b : Bool) → is_some (cond b (Some kv) None) ≡ true → b ≡ true
      by true e = refl
      by false e = cc

  under-key : (vs : List Version) (p : Rev) (k : List ℕ) (kv : KeyValue) → under l (value_at vs p k) ≡ Some kv → kv.key ≡ k
  under-key vs p k kv = by (value_at vs p k) (value_at-key vs p k)
    where
      same : (b : Bool) (x : KeyValue) → cond b (Some x) None ≡ Some kv → Some x ≡ Some kv
      same true x e = e
      same false x e = cc

      by : (o : Option KeyValue) → ((kv : KeyValue) → o ≡ Some kv → kv.key ≡ k) → under l o ≡ Some kv → kv.key ≡ k
      by None h e = cc
      by (Some x) h e = h kv (same (int_eq x.lease l) x e)

  -- a key that holds what was put under the lease is among them
  pub leased-has : (vs : List Version) (p : Rev) (k : List ℕ) (kv : KeyValue) → value_at vs p k ≡ Some kv → int_eq kv.lease l ≡ true
      → has_key k (keys_of (filter (λ kv. int_eq kv.lease l) (live vs p all_keys))) ≡ true
  leased-has vs p k kv e h =
      ap (λ kvs. has_key k (keys_of kvs)) (leased-walked vs p)
      ∙ ap (has_key k) (mapped-keys (λ j. under l (value_at vs p j)) (under-key vs p) (keys vs))
      ∙ has_key-filter (λ j. is_some (under l (value_at vs p j))) k (keys vs)
      ∙ ap (λ o. is_some (under l o) && has_key k (keys vs)) e
      ∙ ap (λ b. is_some (cond b (Some kv) None) && has_key k (keys vs)) h
      ∙ value-has_key k p vs (ap is_some e)

ascending-from : (ks : List (List ℕ)) → IsStrictlyAscending ks → IsAscending ks
ascending-from [] h = tt
ascending-from (k ∷ ks) h = (h.0, ascending-from ks h.1)

-- the keys of the lease are enough
pub live-found : (l : ℤ) (ps : Pairs) (vs : List Version) (p : Rev) → Holds ps (value_at vs p) → is_lease l ≡ true
    → IsStrictlyAscending (keys_at l ps)
    → filter_map (λ k. under l (value_at vs p k)) (keys_at l ps) ≡ filter (λ kv. int_eq kv.lease l) (live vs p all_keys)
live-found l ps vs p h n a =
    mapped-filter g (keys_at l ps)
    ∙ ap (filter_map g) (same_keys _ _ (ascending-filter test (keys_at l ps) (ascending-from (keys_at l ps) a))
    (ascending-filter test (keys vs) (ascending-keys vs)) each)
    ∙ sym (mapped-filter g (keys vs)) ∙ sym (leased-walked l vs p)
  where
    g : List ℕ → Option KeyValue
    g k = under l (value_at vs p k)

    test : List ℕ → Bool
    test k = is_some (g k)

    by : (q : List ℕ) (b : Bool) → test q ≡ b → (b && has_key q (keys_at l ps)) ≡ (b && has_key q (keys vs))
    by q false e = refl
    by q true e =
        let some = under-some l (value_at vs p q) e in
        let same : some.0.lease ≡ l = same-lease some.0.lease l some.2 in
        subst (λ m. has_key q (keys_at m ps) ≡ true) same (h q some.0 some.1 (ap is_lease same ∙ n))
        ∙ sym (value-has_key q p vs (ap is_some some.1))

    each : (q : List ℕ) → has_key q (filter test (keys_at l ps)) ≡ has_key q (filter test (keys vs))
    each q = has_key-filter test q (keys_at l ps) ∙ by q (test q) refl ∙ sym (has_key-filter test q (keys vs))

-- what is kept of the lent keys is what is kept of them as data
pub leased-views : (id : ℤ) (kvs : List KvRef) → map kv_view (filter (λ (kv : KvRef). int_eq kv.lease id) kvs)
    ≡ filter (λ (kv : KeyValue). int_eq kv.lease id) (map kv_view kvs)
leased-views id [] = refl
leased-views id (kv ∷ kvs) = by (int_eq kv.lease id) (leased-views id kvs)
  where
    by : (b : Bool) → map kv_view (filter (λ (kv : KvRef). int_eq kv.lease id) kvs)
        ≡ filter (λ (kv : KeyValue). int_eq kv.lease id) (map kv_view kvs)
        → map kv_view (cond b (kv ∷ filter (λ (kv : KvRef). int_eq kv.lease id) kvs) (filter (λ (kv : KvRef). int_eq kv.lease id) kvs))
        ≡ cond b (kv_view kv ∷ filter (λ (kv : KeyValue). int_eq kv.lease id) (map kv_view kvs))
        (filter (λ (kv : KeyValue). int_eq kv.lease id) (map kv_view kvs))
    by true e = ap (λ ks. kv_view kv ∷ ks) e
    by false e = e
