-- What a Put does, in each world that the core stands for.
use Rattle.std.proofs.Common.{◌≡◌, ℕ, ◌+◌, ◌-◌, List, [], ◌∷◌, ◌++◌, map, Bor, true, false, None, Some, Err, refl, sym, ◌∙◌, ap, subst}
use Rattle.std.proofs.Common.{arith}
use Rattle.std.specs.Option.{option_or}
use Rattle.kv_model.specs.declared.refusal.Refusal.{Refusal}
use Rattle.kv_model.specs.declared.refusal.Refusal.TheVariants.{RevisionsSpent}
use Rattle.kv_model.specs.declared.call.PutRequest.{PutRequest}
use Rattle.kv_model.specs.History.{Mutation, value_at, end_of}
use Rattle.kv_model.specs.Ranges.{refuse_if}
use Rattle.kv_model.specs.Calls.{Call}
use Rattle.kv_model.specs.Leases.{is_granted}
use Rattle.kv_model.specs.Told.{Reply}
use Rattle.kv_model.specs.Txns.{put_fault, previous_value}
use Rattle.kv_model.specs.World.{World, changed}
use Rattle.kv_model.specs.Step.{made_in, perform, answer_of}
use Rattle.store_laws.specs.Stands.{Store, StandsFor, grown_noted, noted}
use Rattle.store_laws.specs.Stores.{refusal_of_put, reply_of_put, changes_of_put}
use Rattle.store_laws.proofs.PlaceLaws.{AreBehind, rev_le-after, value_at-behind}
use Rattle.store_laws.proofs.StandsLaws.{value_now_is}
use Rattle.store_laws.proofs.StandsCommands.{put_told, put_stands, put_has_key}
use Rattle.request_core.specs.declared.answer.Todo.TheVariants as todo
use Rattle.txn_core.specs.KeyWrites.{held_refusal, put_version}
use Rattle.request_core.specs.Writing.{next_rev}
use Rattle.request_core.specs.State.{CoreState, is_spent, fault_of_put, added_by_put, after_put}
use Rattle.request_core.specs.Answers.{IsFault}
use Rattle.request_core.specs.Commands.{CarriesOut, Makes, Refuses, first_refusal}
use Rattle.request_core.proofs.Worlds.{any_moves, made_first, refused_first, commit_made, commit_spent, is_refused}
use Rattle.request_core.proofs.Worlds.{commit_refused, fault_refusal, refusal_told}
use Rattle.store_laws.proofs.GoodLaws.{or-none-first}

-- what the key holds last is what it holds at the store's revision
fault-held : (s : Store) (w : World) → StandsFor s w → (p : PutRequest)
    → option_or (refusal_of_put s p) (refuse_if (is_spent s.revision) RevisionsSpent) ≡ fault_of_put s p
fault-held s w h p = ap (λ o. option_or (option_or (put_fault p) (held_refusal (is_granted s.leases) p o))
    (refuse_if (is_spent s.revision) RevisionsSpent)) (value_now_is s w h p.key)

put-grows : (s : CoreState) (w : World) → StandsFor s.store w → (p : PutRequest) → grown_noted s.store (changes_of_put s.store p) ≡ (after_put s p).store
put-grows s w h p = λ i. record s.store {
  versions = s.store.versions ++ put_version (next_rev s.store.revision) p (value_now_is s.store w h p.key i) ∷ [];
  revision = s.store.revision + 1;
  watches = map (noted (put_version (next_rev s.store.revision) p (value_now_is s.store w h p.key i) ∷ []) (s.store.revision + 1))
      s.store.watches;
}

-- what a put finds before it is still found at the end of the revision before
previous-kept : (s : CoreState) (p : PutRequest) (key : List ℕ) → key ≡ p.key
    → Reply.put (previous_value p.prev_kv (value_at (after_put s p).store.versions (end_of (s.store.revision + 1 - 1)) key))
    ≡ reply_of_put s.store p
previous-kept s p key same =
    let back : s.store.revision + 1 - 1 ≡ s.store.revision = omega arith in
    let behind : AreBehind (end_of s.store.revision) (added_by_put s.store p ∷ [])
    = (rev_le-after (next_rev s.store.revision) (end_of s.store.revision) (omega arith), tt) in
    (λ i. Reply.put (previous_value p.prev_kv (value_at (after_put s p).store.versions (end_of (back i)) (same i))))
    ∙ ap (λ o. Reply.put (previous_value p.prev_kv o))
    (value_at-behind s.store.versions (added_by_put s.store p ∷ []) (end_of s.store.revision) p.key behind)

put-makes : (s : CoreState) (p : PutRequest) → fault_of_put s.store p ≡ None
    → (w : World) → StandsFor s.store w → Makes w (Call.put p) (reply_of_put s.store p) (after_put s p).store
put-makes s p clear w h =
    let us : List Mutation = changes_of_put s.store p in
    let none : option_or (refusal_of_put s.store p) (refuse_if (is_spent s.store.revision) RevisionsSpent)
    ≡ None = fault-held s.store w h p ∙ clear in
    record {
      after = changed w us;
      made = put_told s.store w h p
          ∙ made_first (refusal_of_put s.store p) _ _ _ (commit_made s.store.revision (reply_of_put s.store p) w us) none;
      stands = subst (λ t. StandsFor t (changed w us)) (put-grows s w h p)
          (put_stands s.store w h p (put_has_key s.store p (or-none-first _ _ none)));
    }

-- a put that a core made
pub record WasPut (s new : CoreState) (p : PutRequest) : Type 0 where
  pub clear : fault_of_put s.store p ≡ None
  pub made : new ≡ after_put s p

pub put_done : (s new : CoreState) (p : PutRequest) (key : Bor (List ℕ)) → key.now ≡ p.key → WasPut s new p
    → CarriesOut s new (Call.put p) (todo.Put key p.prev_kv)
put_done s new p key same d = subst (λ (n : CoreState). CarriesOut s n (Call.put p) (todo.Put key p.prev_kv)) (sym d.made) (record {
  makes = λ w h. subst (λ told. Makes w (Call.put p) told (after_put s p).store) (sym (previous-kept s p key.now same))
      (put-makes s p d.clear w h);
  allowed = tt;
  beside = λ w h. refl;
  moves = any_moves s (added_by_put s.store p ∷ []) false (refl, tt);
})

-- ---- what is refused

-- the model refuses a put as the store does
put-refused : (s : Store) (w : World) (p : PutRequest) (e : Refusal) → StandsFor s w → fault_of_put s p ≡ Some e → made_in w (Call.put p)
    ≡ Err e
put-refused s w p e h one = put_told s w h p ∙ refused_first (refusal_of_put s p) _ _ e
    (commit_spent s.revision (reply_of_put s p) w (changes_of_put s p) e) (fault-held s w h p ∙ one)

-- each refusal of a put comes before memory is asked for
put-first : (s : Store) (w : World) (p : PutRequest) → StandsFor s w → first_refusal (perform w (Call.put p)).0 ≡ fault_of_put s p
put-first s w p h = ap (λ m. first_refusal (answer_of m)) (put_told s w h p)
    ∙ commit_refused (refusal_of_put s p) s.revision (reply_of_put s p) w _ ∙ fault-held s w h p

pub put_refuses : (s new : CoreState) (p : PutRequest) (e : Refusal) → IsFault e (fault_of_put s.store p) → new ≡ s
    → Refuses s new (Call.put p) e
put_refuses s new p e r same = record {
  first = λ w h f one. refusal_told w (Call.put p) e f (fault_of_put s.store p) (put-first s.store w p h) r one;
  refused = λ w h. is_refused w (Call.put p) e (fault_of_put s.store p) (fault_refusal e (fault_of_put s.store p) r)
      (λ f one. put-refused s.store w p f h one);
  free = λ no. let bad : true ≡ false = no in cc;
  kept = same;
}
