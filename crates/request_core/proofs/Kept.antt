-- What is kept stays counted as it grows, and what a put and a delete add are the versions of the next revision.
use Rattle.std.proofs.Common.{◌∙◌, ◌≡◌, ◌≢◌, ℕ, zero, suc, ◌+◌, ◌<◌, ◌≤◌, ◌^◌, ◌&&◌, ◌==◌, List, [], ◌∷◌, ◌++◌, length, map, take, get_or, true, Option, None, Some, option_and_then, refl, sym, ap, subst, arith, eq-eqb, eqb-true, lt-ltb}
use Rattle.std.specs.Option.{MatchOption}
use Rattle.std.specs.List.{AllByRecursion}
use Rattle.kv_model.specs.declared.version.Rev.{Rev}
use Rattle.kv_model.specs.declared.version.Version.{Version}
use Rattle.kv_model.specs.declared.version.Body.{Body}
use Rattle.kv_model.specs.declared.version.Body.TheVariants.{Put, Gone}
use Rattle.kv_model.specs.Lists.{last_that}
use Rattle.kv_model.specs.Keys.{same_key}
use Rattle.kv_model.specs.History.{Action, KeyValue, key_value, shown, value_at, rev_le}
use Rattle.kv_model.specs.Step.{last_main}
use Rattle.store_laws.specs.Snapshots.{last_main_or}
use Rattle.kv_model.specs.Txns.{next_body}
use Rattle.store_laws.proofs.PlaceLaws.{each-map, each-append}
use Rattle.range_view.specs.declared.reply.KvRef.{KvRef}
use Rattle.lease_book.specs.Book.{Book}
use Rattle.range_view.specs.Replies.{kv_view}
use Rattle.range_view.specs.Stored.{AreOf, IsUpTo, Stored, goes_on, appended}
use Rattle.range_view.proofs.Growing.{next-of, next-revision}
use Rattle.store_laws.proofs.BetweenSteps as between
use Rattle.txn_core.specs.KeyWrites.{IsCountedTo, tombstone}
use Rattle.txn_core.proofs.PutCounts.{last_that-holds}
use Rattle.request_core.specs.Writing.{IsHeldTo, AreNext, tombstones}
use Rattle.std.proofs.lemmas.List.Elements.{filter-append}
use Rattle.std.proofs.lemmas.Bool.Decides.{nat_tests}
use Rattle.std.specs.Prelude.{Bool, nat_le, filter, cond, false}
use Rattle.store_laws.specs.Stands.{noted}
use Rattle.watch_hub.specs.Hub.{Hub}
use Rattle.request_core.specs.State.{CoreState, IsSound, core_state, noted_above, with_unnoted, with_versions}

-- ---- counting

counted-more : (r : ℕ) (b : Body) → IsCountedTo r b → IsCountedTo (r + 1) b
counted-more r (Put create version lease value) h = omega arith
counted-more r Gone h = tt

shown-held : (r m : ℕ) (k : List ℕ) (b : Body) → IsCountedTo r b → IsHeldTo r (shown m k b)
shown-held r m k (Put create version lease value) h = h
shown-held r m k Gone h = tt

pub found-held : (r : ℕ) (o : Option Version) → MatchOption o (Unit {0}) (λ v. IsCountedTo r v.body) → IsHeldTo r (option_and_then key_value o)
found-held r None h = tt
found-held r (Some v) h = shown-held r v.rev.main v.key v.body h

-- what a key holds is counted
pub held-counted : (t : Stored) (p : Rev) (k : List ℕ) → IsSound t → IsHeldTo t.revision (value_at t.versions p k)
unfolding value_at
held-counted t p k h = found-held t.revision (last_that (λ (v : Version). same_key v.key k && rev_le v.rev p) t.versions)
    (last_that-holds (λ (v : Version). IsCountedTo t.revision v.body) (λ (v : Version). same_key v.key k && rev_le v.rev p) t.versions h.counted)

-- what a change makes of a key is counted one higher
pub action-counted : (r main : ℕ) (a : Action) (o : Option KeyValue) → IsHeldTo r o → IsCountedTo (r + 1) (next_body main a o)
action-counted r main (Action.put value lease) None h = omega arith
action-counted r main (Action.put value lease) (Some kv) h = omega arith
action-counted r main Action.delete o h = tt

-- ---- the versions of the next revision

dead-go_on : (main sub : ℕ) (kvs : List KeyValue) → goes_on (record { main = main; sub = sub }) (tombstones main (suc sub) kvs) ≡ true
dead-go_on main sub [] = refl
dead-go_on main sub (kv ∷ kvs) = λ i. eq-eqb main main refl i && lt-ltb sub (suc sub) (omega arith) i && dead-go_on main (suc sub) kvs i

dead-counted : (r main sub : ℕ) (kvs : List KeyValue) → AllByRecursion (λ v. IsCountedTo r v.body) (tombstones main sub kvs)
dead-counted r main sub [] = tt
dead-counted r main sub (kv ∷ kvs) = (tt, dead-counted r main (suc sub) kvs)

dead-places : (main sub : ℕ) (kvs : List KeyValue) → sub + length kvs ≤ 2 ^ 64 → AllByRecursion (λ v. v.rev.sub < 2 ^ 64) (tombstones main sub kvs)
dead-places main sub [] l = tt
dead-places main sub (kv ∷ kvs) l = (omega arith, dead-places main (suc sub) kvs (omega arith))

-- the tombstones of a delete
pub tombstones-next : (r n : ℕ) (kvs : List KeyValue) → n ≡ length kvs → n ≤ 2 ^ 64 → 0 < n → AreNext r (tombstones (r + 1) 0 kvs)
tombstones-next r n [] e few some = absurd (omega (arith, e, some))
tombstones-next r n (kv ∷ kvs) e few some = record {
  some = λ none. cc;
  next = λ i. eq-eqb (r + 1) (r + 1) refl i && dead-go_on (r + 1) 0 kvs i;
  places = dead-places (r + 1) 0 (kv ∷ kvs) (omega (arith, e, few));
  counted = dead-counted (r + 1) (r + 1) 0 (kv ∷ kvs);
}

-- versions that bury keys at the next revision, no more of them than have numbers
pub record AreTombstones (r n : ℕ) (kvs : List KeyValue) (vs : List Version) : Type 0 where
  pub made : vs ≡ tombstones (r + 1) 0 kvs
  pub counted : n ≡ length kvs
  pub few : n ≤ 2 ^ 64

-- in the form that a delete and a revoke cite
pub some-tombstones-next : (r n : ℕ) (kvs : List KeyValue) (vs : List Version) → AreTombstones r n kvs vs → vs ≢ [] → AreNext r vs
some-tombstones-next r n [] vs h some = absurd (some h.made)
some-tombstones-next r n (kv ∷ kvs) vs h some =
    let counted : n ≡ length (kv ∷ kvs) = h.counted in
    subst (AreNext r) (sym h.made) (tombstones-next r n (kv ∷ kvs) counted h.few (omega (arith, counted)))

pub tombstones-length : (main sub : ℕ) (kvs : List KeyValue) → length (tombstones main sub kvs) ≡ length kvs
tombstones-length main sub [] = refl
tombstones-length main sub (kv ∷ kvs) = ap suc (tombstones-length main (suc sub) kvs)

-- one tombstone more, behind the others
pub tombstones-more : (main sub n : ℕ) (kvs : List KvRef) (i : ℕ) (d : KvRef) → n ≡ sub + i → i < length kvs
    → tombstones main sub (map kv_view (take (suc i) kvs)) ≡ tombstones main sub (map kv_view (take i kvs)) ++ tombstone main n (get_or kvs i d).key.now ∷ []
tombstones-more main sub n [] i d e h = absurd (omega arith)
tombstones-more main sub n (kv ∷ kvs) zero d e h = let same : sub ≡ n = omega (arith, e) in ap (λ m. tombstone main m kv.key.now ∷ []) same
tombstones-more main sub n (kv ∷ kvs) (suc i) d e h =
    let below : i < length kvs = omega arith in
    let same : n ≡ suc sub + i = omega (arith, e) in
    ap (λ vs. tombstone main sub kv.key.now ∷ vs) (tombstones-more main (suc sub) n kvs i d same below)

-- ---- growth

pub next-main : (r : ℕ) (vs : List Version) → AreNext r vs → last_main_or r vs ≡ r + 1
next-main r [] h = absurd (h.some refl)
next-main r (v ∷ vs) h = next-revision r v vs h.next

pub sound-appended : (t : Stored) (vs : List Version) → IsSound t → t.revision < last_main → AreNext t.revision vs → IsSound (appended t vs)
sound-appended t vs h room n = subst (λ r. IsSound (record t { versions = t.versions ++ vs; revision = r })) (sym (next-main t.revision vs n)) (record {
  fits = omega arith;
  places = each-append (λ v. v.rev.sub < 2 ^ 64) t.versions vs h.places n.places;
  counted = each-append (λ v. IsCountedTo (t.revision + 1) v.body) t.versions vs
      (each-map (λ v. IsCountedTo t.revision v.body) (λ v. IsCountedTo (t.revision + 1) v.body)
      (λ v c. counted-more t.revision v.body c) t.versions h.counted) n.counted;
  floor = omega (arith, h.floor);
  trimmed = (between.goes_on t.versions vs t.place t.compacted high h.trimmed).up_to;
})
  where
    high : AllByRecursion (λ v. t.compacted < v.rev.main) vs
    high = each-map (λ v. (v.rev.main == t.revision + 1) ≡ true) (λ v. t.compacted < v.rev.main)
        (λ v e. let same : v.rev.main ≡ t.revision + 1 = eqb-true v.rev.main (t.revision + 1) e in omega (arith, h.floor)) vs
        (next-of t.revision vs n.next)

-- a core whose tables grew
pub grown-state : (t : Stored) (b : Book) (h : Hub) (vs : List Version) (stamp : ℕ) → AreNext t.revision vs
    → core_state (appended t vs) b h stamp ≡ with_unnoted (core_state t b h stamp) vs
grown-state t b h vs stamp n =
    ap (λ r. core_state (record t { versions = t.versions ++ vs; revision = r }) b h stamp) (next-main t.revision vs n)

-- the watches take note of the versions that were appended
gone-older : (r : ℕ) (vs : List Version) → IsUpTo r vs → filter (λ v. nat_le (r + 1) v.rev.main) vs ≡ []
gone-older r [] h = refl
gone-older r (v ∷ vs) h =
    let least : v.rev.main ≤ r = h.0 in
    let less : nat_le (r + 1) v.rev.main ≡ false = grind (arith, nat_tests) in
    ap (λ b. cond b (v ∷ filter (λ w. nat_le (r + 1) w.rev.main) vs) (filter (λ w. nat_le (r + 1) w.rev.main) vs)) less
    ∙ gone-older r vs h.1

kept-newest : (n : ℕ) (vs : List Version) → AreOf n vs → filter (λ v. nat_le n v.rev.main) vs ≡ vs
kept-newest n [] h = refl
kept-newest n (v ∷ vs) h =
    let same : v.rev.main ≡ n = eqb-true v.rev.main n h.0 in
    let most : nat_le n v.rev.main ≡ true = grind (arith, nat_tests) in
    ap (λ b. cond b (v ∷ filter (λ w. nat_le n w.rev.main) vs) (filter (λ w. nat_le n w.rev.main) vs)) most
    ∙ ap (λ us. v ∷ us) (kept-newest n vs h.1)

pub newest-appended : (r : ℕ) (vs us : List Version) → IsUpTo r vs → AreOf (r + 1) us → filter (λ v. nat_le (r + 1) v.rev.main) (vs ++ us) ≡ us
newest-appended r vs us h g =
    filter-append (λ (v : Version). nat_le (r + 1) v.rev.main) vs us
    ∙ ap (λ ws. ws ++ filter (λ v. nat_le (r + 1) v.rev.main) us) (gone-older r vs h) ∙ kept-newest (r + 1) us g

pub noted-behind : (s : CoreState) (vs : List Version) → IsUpTo s.store.revision s.store.versions → AreNext s.store.revision vs
    → noted_above s.store.revision (with_unnoted s vs) ≡ with_versions s vs
noted-behind s vs h n = ap (λ us. record s {
  store = record s.store {
    versions = s.store.versions ++ vs;
    revision = s.store.revision + 1;
    watches = map (noted us (s.store.revision + 1)) s.store.watches;
  };
}) (newest-appended s.store.revision s.store.versions vs h (next-of s.store.revision vs n.next))

pub upto-newest : (n : ℕ) (vs : List Version) → IsUpTo n vs → AreOf n (filter (λ v. nat_le n v.rev.main) vs)
upto-newest n [] h = tt
upto-newest n (v ∷ vs) h = by (nat_le n v.rev.main) refl (upto-newest n vs h.1)
  where
    by : (b : Bool) → nat_le n v.rev.main ≡ b → AreOf n (filter (λ w. nat_le n w.rev.main) vs)
        → AreOf n (cond b (v ∷ filter (λ w. nat_le n w.rev.main) vs) (filter (λ w. nat_le n w.rev.main) vs))
    by true e rest =
        let least : v.rev.main ≤ n = h.0 in
        let same : (v.rev.main == n) ≡ true = grind (arith, nat_tests) in
        (same, rest)
    by false e rest = rest
