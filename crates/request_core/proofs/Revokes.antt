-- What a revoke and a step of expiry do, in each world that the core stands for.
use Rattle.std.proofs.Common.{◌≡◌, ◌⊎◌, inl, inr, ℕ, ℤ, ◌+◌, ◌≤◌, ◌^◌, List, [], ◌∷◌, length, Bool, true, false, ◌&&◌, cond, nat_lt}
use Rattle.std.proofs.Common.{Option, None, Some, Err, refl, sym, ◌∙◌, ap, subst, arith, lt-ltb, le-ltb}
use Rattle.std.specs.Prelude.{not, option_map, MatchBool, ⊤}
use Rattle.std.specs.Option.{option_or}
use Rattle.std.proofs.lemmas.List.{length-map}
use Rattle.kv_model.specs.declared.refusal.Refusal.{Refusal}
use Rattle.kv_model.specs.declared.refusal.Refusal.TheVariants.{LeaseMissing, Memory, RevisionsSpent}
use Rattle.kv_model.specs.declared.version.Version.{Version}
use Rattle.kv_model.specs.Calls.{Call}
use Rattle.kv_model.specs.History.{KeyValue, Mutation}
use Rattle.kv_model.specs.Leases.{Lease, is_granted, without_lease, keys_of_lease, due}
use Rattle.kv_model.specs.Lists.{is_empty}
use Rattle.kv_model.specs.Ranges.{refuse_if}
use Rattle.kv_model.specs.Told.{Reply, Expiry}
use Rattle.kv_model.specs.World.{World, revision}
use Rattle.kv_model.specs.Step.{made_in, expiry_of, expire, expire_at, revoke_in}
use Rattle.store_laws.specs.Stands.{Store, StandsFor}
use Rattle.store_laws.specs.Stores.{refusal_of_revoke, changes_of_revoke}
use Rattle.store_laws.proofs.MoveLaws.{expiry_moves}
use Rattle.store_laws.proofs.StandsLeases.{leases_stand, revoke_told, revoke_stands, due_stands}
use Rattle.request_core.specs.declared.answer.Expiry.{Expiry as CoreExpiry}
use Rattle.request_core.specs.declared.answer.Expiry.TheVariants as expiry
use Rattle.request_core.specs.declared.answer.Todo.TheVariants as todo
use Rattle.request_core.specs.Writing.{tombstones}
use Rattle.request_core.specs.State.{CoreState, leased_in, with_any, leased, fault_of_revoke, added_by_revoke, after_revoke, due_in}
use Rattle.request_core.specs.State.{counted, is_spent, keeping_of, raised_from, stamp_after}
use Rattle.request_core.specs.Answers.{IsFirst, IsRefusal, expiry_view, has_expired, is_memory}
use Rattle.request_core.specs.Commands.{AddsVersions, CarriesOut, Expires, Makes, Moves, Refuses, RefusesExpiry, StartsOver}
use Rattle.request_core.proofs.Worlds.{changed_by, committed, made_first, refused_first, commit_made, commit_spent, is_refused}
use Rattle.request_core.proofs.Worlds.{fault_told, first_or_later}
use Rattle.request_core.proofs.Worlds.{AreAt, any_adds, changed-beside, keeps_worlds, none-raised, rests}
use Rattle.request_core.proofs.Deletes.{any-grows, any-stays, deletes-spent, tombstones_at}

-- a revoke that a core made, of a lease with so many keys
pub record WasRevoked (s new : CoreState) (id : ℤ) (n : ℕ) : Type 0 where
  pub clear : fault_of_revoke s.store id ≡ None
  pub made : new ≡ after_revoke s id
  pub counted : n ≡ length (leased_in s.store id)
  pub few : n ≤ 2 ^ 64

-- ---- what it leaves

-- the store without the lease, before its keys are deleted
abbrev unleased : CoreState → ℤ → CoreState
unleased s id = leased s (without_lease id s.store.leases)

abbrev without : Store → World → ℤ → World
without s w id = record w { leases = without_lease id s.leases }

-- the lease may be taken out before its keys or after them
any-leased : (s : CoreState) (ls : List Lease) (vs : List Version) → with_any (leased s ls) vs ≡ leased (with_any s vs) ls
any-leased s ls [] = refl
any-leased s ls (v ∷ vs) = refl

any-rises : (s : CoreState) (main : ℕ) (kvs : List KeyValue)
    → nat_lt s.store.revision (with_any s (tombstones main 0 kvs)).store.revision ≡ nat_lt 0 (length kvs)
any-rises s main [] = le-ltb s.store.revision s.store.revision (omega arith)
any-rises s main (kv ∷ kvs) =
    lt-ltb s.store.revision (s.store.revision + 1) (omega arith) ∙ sym (lt-ltb 0 (length (kv ∷ kvs)) (omega arith))

revoke-left : (s new : CoreState) (id : ℤ) (n : ℕ) → WasRevoked s new id n → (with_any (unleased s id) (added_by_revoke s.store id)).store
    ≡ new.store
revoke-left s new id n was = ap (λ (t : CoreState). t.store)
    (any-leased s (without_lease id s.store.leases) (added_by_revoke s.store id) ∙ sym was.made)

-- the revision rises where the lease had some key
revoke-rises : (s new : CoreState) (id : ℤ) (n : ℕ) → WasRevoked s new id n → nat_lt s.store.revision new.store.revision ≡ nat_lt 0 n
revoke-rises s new id n was =
    ap (λ (t : CoreState). nat_lt s.store.revision t.store.revision) was.made
    ∙ any-rises s (s.store.revision + 1) (leased_in s.store id) ∙ ap (λ m. nat_lt 0 m) (sym was.counted)

-- what the model makes of it
revoke-makes : (s new : CoreState) (id : ℤ) (n : ℕ) → WasRevoked s new id n → (w : World) → StandsFor s.store w
    → Makes w (Call.revoke id) Reply.revoke new.store
revoke-makes s new id n was w h =
    let kvs : List KeyValue = leased_in s.store id in
    let us : List Mutation = changes_of_revoke s.store id in
    let left = revoke-left s new id n was in
    let fits : length (keys_of_lease s.store.versions s.store.revision id) ≤ 2 ^ 64
    = subst (λ m. m ≤ 2 ^ 64) (was.counted ∙ sym (length-map kvs (λ (kv : KeyValue). kv.key))) was.few in
    record {
      after = changed_by (without s.store w id) us;
      made = revoke_told s.store w h id ∙ made_first (refusal_of_revoke s.store id) _ _ _
          (λ none. commit_made s.store.revision Reply.revoke (without s.store w id) us
          (deletes-spent s.store.revision (s.store.revision + 1) kvs ∙ none))
          was.clear;
      stands = committed (unleased s id).store new.store us (without s.store w id) (record {
        stood = leases_stand s.store w (without_lease id s.store.leases) h;
        stands = revoke_stands s.store w h id fits;
        grows = λ some. any-grows (unleased s id) kvs some ∙ left;
        stays = λ none. any-stays (unleased s id) kvs none ∙ left;
      });
    }

-- ---- in the form that `apply_revoke` cites

pub revoke-moves : (s new : CoreState) (id : ℤ) (n : ℕ) → WasRevoked s new id n → Moves s new true None
revoke-moves s new id n was = record {
  keeps = subst (λ (t : CoreState). AddsVersions s t ⊎ StartsOver s t) (sym was.made)
      (revoke-adds (added_by_revoke s.store id) (tombstones_at (s.store.revision + 1) 0 (leased_in s.store id)));
  unchanged = changed-beside (nat_lt s.store.revision new.store.revision);
  stamp = ap (λ (t : CoreState). t.stamp) was.made ∙ any-stamp (added_by_revoke s.store id);
  watches = ap (raised_from s.store.made) (ap (λ (t : CoreState). t.store.made) was.made ∙ any-made (added_by_revoke s.store id))
      ∙ none-raised s.store.made;
}
  where
    revoke-adds : (vs : List Version) → AreAt (s.store.revision + 1) vs
        → AddsVersions s (leased (with_any s vs) (without_lease id s.store.leases))
        ⊎ StartsOver s (leased (with_any s vs) (without_lease id s.store.leases))
    revoke-adds [] at = rests s (leased s (without_lease id s.store.leases)) refl refl refl
    revoke-adds (v ∷ vs) at = elim (any_adds s (v ∷ vs) at) [
      | inl a ↦ inl (record { added = a.added; versions = a.versions; above = a.above; compacted = a.compacted; place = a.place })
      | inr c ↦ inr (record { versions = c.versions; up = c.up; place = c.place })
    ]

    any-stamp : (vs : List Version) → (with_any s vs).stamp ≡ s.stamp
    any-stamp [] = refl
    any-stamp (v ∷ vs) = refl

    any-made : (vs : List Version) → (with_any s vs).store.made ≡ s.store.made
    any-made [] = refl
    any-made (v ∷ vs) = refl

pub revoke_done : (s new : CoreState) (id : ℤ) (n : ℕ) → WasRevoked s new id n → CarriesOut s new (Call.revoke id) todo.Revoke
revoke_done s new id n was = record {
  makes = λ w h. revoke-makes s new id n was w h;
  allowed = tt;
  beside = λ w h. refl;
  moves = revoke-moves s new id n was;
}

-- the model refuses a revoke as the store does
revoke-refused : (s : Store) (w : World) (id : ℤ) (e : Refusal) → StandsFor s w → fault_of_revoke s id ≡ Some e
    → made_in w (Call.revoke id) ≡ Err e
revoke-refused s w id e h one = revoke_told s w h id ∙ refused_first (refusal_of_revoke s id) _ _ e
    (λ spent. commit_spent s.revision Reply.revoke (without s w id) (changes_of_revoke s id) e
    (deletes-spent s.revision (s.revision + 1) (leased_in s id) ∙ spent)) one

-- a revoke that is refused is refused by its first refusal, or wants memory
pub revoke_refusal : (s : Store) (id : ℤ) (e : Refusal) → IsFirst e (refusal_of_revoke s id) (fault_of_revoke s id)
    → IsRefusal e (fault_of_revoke s id)
revoke_refusal s id e r = first_or_later e (refusal_of_revoke s id) (fault_of_revoke s id)
    (ap (λ o. option_or o (refuse_if (not (is_empty (leased_in s id)) && is_spent s.revision) RevisionsSpent))) r

pub revoke_refuses : (s new : CoreState) (id : ℤ) (e : Refusal) → IsFirst e (refusal_of_revoke s.store id) (fault_of_revoke s.store id)
    → new ≡ s → Refuses s new (Call.revoke id) e
revoke_refuses s new id e r same = record {
  first = λ w h f one. fault_told e f (refusal_of_revoke s.store id) (fault_of_revoke s.store id) r
      (ap (λ ls. refuse_if (not (is_granted ls id)) LeaseMissing) h.leases ∙ one);
  refused = λ w h. is_refused w (Call.revoke id) e (fault_of_revoke s.store id) (revoke_refusal s.store id e r)
      (λ f one. revoke-refused s.store w id f h one);
  free = λ no. let bad : true ≡ false = no in cc;
  kept = same;
}

-- ---- expiry

some-due : (w : World) (o : Option Lease) (id : ℤ) → option_map (λ (l : Lease). l.id) o ≡ Some id → expire_at w o ≡ expiry_of id w (revoke_in w id)
some-due w None id e = cc
some-due w (Some l) id e = let same : l.id ≡ id = cc in ap (λ j. expiry_of j w (revoke_in w j)) same

due-id : (s : Store) (w : World) → StandsFor s w → option_map (λ (l : Lease). l.id) (due w.clock w.leases) ≡ due_in s
due-id s w h = ap (λ o. option_map (λ (l : Lease). l.id) o) (sym (due_stands s w h))

-- the lease that is due expires, and the step is counted
pub lease-expires : (s new : CoreState) (id : ℤ) (n : ℕ) → WasRevoked s new id n → due_in s.store ≡ Some id → (w : World) → StandsFor s.store w
    → (Expiry.expired id new.store.revision (nat_lt 0 n) ≡ (expire w).0) × StandsFor new.store (expire w).1
lease-expires s new id n was is w h =
    let done : Makes w (Call.revoke id) Reply.revoke new.store = revoke-makes s new id n was w h in
    let all : expire w ≡ (Expiry.expired id (revision done.after) (nat_lt (revision w) (revision done.after)), done.after)
    = some-due w (due w.clock w.leases) id (due-id s.store w h ∙ is) ∙ ap (λ m. expiry_of id w m) done.made in
    let rose : nat_lt 0 n ≡ nat_lt (revision w) (revision done.after)
    = sym (revoke-rises s new id n was) ∙ λ i. nat_lt (h.revision_is i) (done.stands.revision_is i) in
    let told : Expiry.expired id new.store.revision (nat_lt 0 n)
    ≡ Expiry.expired id (revision done.after) (nat_lt (revision w) (revision done.after))
    = λ i. Expiry.expired id (done.stands.revision_is i) (rose i) in
    (told ∙ ap (λ x. x.0) (sym all), subst (λ u. StandsFor new.store u) (ap (λ x. x.1) (sym all)) done.stands)

-- a lease that is due and was revoked, and what is told of it once that is counted
pub record WasExpired (s new : CoreState) (id : ℤ) (e : CoreExpiry) : Type 0 where
  pub keys : ℕ
  pub revoked : CoreState
  pub was : WasRevoked s revoked id keys
  pub due_is : due_in s.store ≡ Some id
  pub told : expiry_view e ≡ Expiry.expired id revoked.store.revision (nat_lt 0 keys)
  pub counts : new ≡ counted true revoked

pub lease_expires : (s new : CoreState) (id : ℤ) (e : CoreExpiry) → WasExpired s new id e → Expires s new e
lease_expires s new id e x = record {
  expired = λ w h.
      let done = lease-expires s x.revoked id x.keys x.was x.due_is w h in
      record {
        tells = x.told ∙ done.0;
        stands = subst (λ (t : CoreState). StandsFor t.store (expire w).1) (sym x.counts) done.1;
        keeps = ap keeping_of x.counts
            ∙ keeps_worlds s x.revoked w (expire w).1 (revoke-moves s x.revoked id x.keys x.was).keeps h done.1 (expiry_moves w);
      };
  unchanged = λ none. let bad : true ≡ false = sym (is-expired e _ _ _ x.told) ∙ none in cc;
  stamp = ap (λ (t : CoreState). t.stamp) x.counts
      ∙ ap (λ n. stamp_after true n) (revoke-moves s x.revoked id x.keys x.was).stamp
      ∙ ap (λ b. stamp_after b s.stamp) (sym (is-expired e _ _ _ x.told));
}
  where
    is-expired : (e : CoreExpiry) (id : ℤ) (n : ℕ) (b : Bool) → expiry_view e ≡ Expiry.expired id n b → has_expired e ≡ true
    is-expired expiry.Nothing id n b h = cc
    is-expired (expiry.Expired i m up) id n b h = refl

-- the lease that is due has keys, and no revision comes after the present one
expiry_spent : (s : Store) (w : World) (id : ℤ) (e : Refusal) → StandsFor s w → due_in s ≡ Some id → fault_of_revoke s id ≡ Some e
    → (expire w).0 ≡ Expiry.spent
expiry_spent s w id e h is one =
    ap (λ x. x.0) (some-due w (due w.clock w.leases) id (due-id s w h ∙ is) ∙ ap (λ m. expiry_of id w m) (revoke-refused s w id e h one))

-- a step of expiry that is refused wants memory, or the revisions are spent
pub expiry_refuses : (s new : CoreState) (id : ℤ) (r : Refusal) → due_in s.store ≡ Some id → IsRefusal r (fault_of_revoke s.store id)
    → new ≡ s
    → RefusesExpiry s new (cond (is_memory r) Memory RevisionsSpent)
expiry_refuses s new id r due h same = record { refused = by (is_memory r) h; kept = same }
  where
    by : (b : Bool) → MatchBool b ⊤ (fault_of_revoke s.store id ≡ Some r) → MatchBool (is_memory (cond b Memory RevisionsSpent)) ⊤
        ((cond b Memory RevisionsSpent ≡ RevisionsSpent) × ((w : World) → StandsFor s.store w → (expire w).0 ≡ Expiry.spent))
    by true h = tt
    by false h = (refl, λ w stands. expiry_spent s.store w id r stands due h)
