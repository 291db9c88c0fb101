-- What a DeleteRange does, in each world that the core stands for.
use Rattle.std.proofs.Common.{◌≡◌, ◌≢◌, ℕ, suc, ◌+◌, ◌-◌, ◌≤◌, ◌^◌, ◌&&◌, List, [], ◌∷◌, ◌++◌, length, Bor, Bool, true, false, not}
use Rattle.std.proofs.Common.{nat_lt, None, Some, Err, refl, sym, ◌∙◌, ap, subst, arith, append_assoc, append-nil, lt-ltb}
use Rattle.std.specs.Option.{option_or}
use Rattle.kv_model.specs.declared.refusal.Refusal.{Refusal}
use Rattle.kv_model.specs.declared.refusal.Refusal.TheVariants.{RevisionsSpent}
use Rattle.kv_model.specs.declared.call.DeleteRequest.{DeleteRequest}
use Rattle.kv_model.specs.declared.version.Version.{Version}
use Rattle.kv_model.specs.declared.version.KeyRange.{KeyRange}
use Rattle.kv_model.specs.Lists.{is_empty}
use Rattle.kv_model.specs.History.{KeyValue, Mutation, now_after, end_of}
use Rattle.kv_model.specs.Ranges.{live, keys_of, refuse_if}
use Rattle.kv_model.specs.Calls.{Call}
use Rattle.kv_model.specs.Told.{Reply}
use Rattle.kv_model.specs.Txns.{extend_all, deletes_of, if_asked}
use Rattle.kv_model.specs.World.{World}
use Rattle.kv_model.specs.Step.{made_in}
use Rattle.store_laws.specs.Stands.{Store, StandsFor, grown_noted}
use Rattle.store_laws.specs.Stores.{refusal_of_delete, reply_of_delete, changes_of_delete}
use Rattle.store_laws.proofs.KeyLaws.{live-same}
use Rattle.store_laws.proofs.PlaceLaws.{AreBehind, rev_le-after, value_at-behind}
use Rattle.store_laws.proofs.StandsCommands.{delete_told, delete_stands}
use Rattle.request_core.specs.declared.answer.Todo.TheVariants as todo
use Rattle.txn_core.specs.KeyWrites.{tombstone}
use Rattle.request_core.specs.Writing.{tombstones}
use Rattle.request_core.specs.State.{CoreState, live_in, is_spent, with_any, fault_of_delete, added_by_delete, after_delete}
use Rattle.request_core.specs.Answers.{IsFirst}
use Rattle.request_core.specs.Commands.{CarriesOut, Makes, Refuses}
use Rattle.request_core.proofs.Worlds.{fault_told, first_or_later}
use Rattle.request_core.proofs.Worlds.{AreAt, any_moves, changed_by, committed, grows_by, made_first, refused_first, commit_made, commit_spent, is_refused}

-- ---- deletes in a row make tombstones

pub deletes-extend : (vs : List Version) (main sub : ℕ) (kvs : List KeyValue) → extend_all vs (deletes_of main sub (keys_of kvs)) ≡ vs ++ tombstones main sub kvs
deletes-extend vs main sub [] = sym (append-nil vs)
deletes-extend vs main sub (kv ∷ kvs) = deletes-extend (vs ++ tombstone main sub kv.key ∷ []) main (suc sub) kvs ∙ append_assoc vs (tombstone main sub kv.key ∷ []) (tombstones main (suc sub) kvs)

deletes-now : (main sub : ℕ) (ks : List (List ℕ)) → now_after main (deletes_of main sub ks) ≡ main
deletes-now main sub [] = refl
deletes-now main sub (k ∷ ks) = deletes-now main (suc sub) ks

pub deletes-next : (r main sub : ℕ) (kvs : List KeyValue) → kvs ≢ [] → now_after r (deletes_of main sub (keys_of kvs)) ≡ main
deletes-next r main sub [] some = absurd (some refl)
deletes-next r main sub (kv ∷ kvs) some = deletes-now main (suc sub) (keys_of kvs)

-- they stand at one revision
pub tombstones_at : (main sub : ℕ) (kvs : List KeyValue) → AreAt main (tombstones main sub kvs)
tombstones_at main sub [] = tt
tombstones_at main sub (kv ∷ kvs) = (refl, tombstones_at main (suc sub) kvs)

-- they grow a store as the tombstones do, and no keys leave it as it is
pub any-grows : (s : CoreState) (kvs : List KeyValue) → deletes_of (s.store.revision + 1) 0 (keys_of kvs) ≢ []
    → grown_noted s.store (deletes_of (s.store.revision + 1) 0 (keys_of kvs)) ≡ (with_any s (tombstones (s.store.revision + 1) 0 kvs)).store
any-grows s [] some = absurd (some refl)
any-grows s (kv ∷ kvs) some = grows_by s (deletes_of (s.store.revision + 1) 0 (keys_of (kv ∷ kvs))) (tombstones (s.store.revision + 1) 0 (kv ∷ kvs))
    (deletes-extend s.store.versions (s.store.revision + 1) 0 (kv ∷ kvs))
    (deletes-next s.store.revision (s.store.revision + 1) 0 (kv ∷ kvs) (λ e. let bad : kv ∷ kvs ≡ [] = e in cc))

pub any-stays : (s : CoreState) (kvs : List KeyValue) → deletes_of (s.store.revision + 1) 0 (keys_of kvs) ≡ []
    → s.store ≡ (with_any s (tombstones (s.store.revision + 1) 0 kvs)).store
any-stays s [] none = refl
any-stays s (kv ∷ kvs) none = cc

-- they need a revision where there is some key
pub deletes-empty : (main : ℕ) (kvs : List KeyValue) → is_empty (deletes_of main 0 (keys_of kvs)) ≡ is_empty kvs
deletes-empty main [] = refl
deletes-empty main (kv ∷ kvs) = refl

pub deletes-spent : (r main : ℕ) (kvs : List KeyValue)
    → refuse_if (not (is_empty (deletes_of main 0 (keys_of kvs))) && is_spent r) RevisionsSpent
    ≡ refuse_if (not (is_empty kvs) && is_spent r) RevisionsSpent
deletes-spent r main kvs = ap (λ b. refuse_if (not b && is_spent r) RevisionsSpent) (deletes-empty main kvs)

-- ---- what is read back

behind-before : (r sub : ℕ) (kvs : List KeyValue) → AreBehind (end_of r) (tombstones (r + 1) sub kvs)
behind-before r sub [] = tt
behind-before r sub (kv ∷ kvs) = (rev_le-after (record { main = r + 1; sub = sub }) (end_of r) (omega arith), behind-before r (suc sub) kvs)

-- what was live is still found at the end of the revision before, where there is one more
live-before : (s : CoreState) (kvs : List KeyValue) (r : KeyRange) → kvs ≢ []
    → live (with_any s (tombstones (s.store.revision + 1) 0 kvs)).store.versions
    (end_of ((with_any s (tombstones (s.store.revision + 1) 0 kvs)).store.revision - 1)) r
    ≡ live_in s.store r
live-before s [] r some = absurd (some refl)
live-before s (kv ∷ kvs) r some =
    let dead : List Version = tombstones (s.store.revision + 1) 0 (kv ∷ kvs) in
    let back : s.store.revision + 1 - 1 ≡ s.store.revision = omega arith in
    ap (λ n. live (s.store.versions ++ dead) (end_of n) r) back
    ∙ live-same (s.store.versions ++ dead) s.store.versions (end_of s.store.revision) r
    (λ k. value_at-behind s.store.versions dead (end_of s.store.revision) k (behind-before s.store.revision 0 (kv ∷ kvs)))

-- what is shown of them
if_asked-none : {X : Type 0} (b : Bool) → if_asked {X = X} b [] ≡ []
if_asked-none true = refl
if_asked-none false = refl

and-true : (b c : Bool) → c ≡ true → (b && c) ≡ b
and-true true c e = e
and-true false c e = refl

asked-nothing : {X : Type 0} (b : Bool) (xs : List X) → if_asked (b && nat_lt 0 0) xs ≡ []
asked-nothing true xs = refl
asked-nothing false xs = refl

shown-kept : (s : CoreState) (asked : Bool) (r : KeyRange) (kvs : List KeyValue) → live_in s.store r ≡ kvs
    → if_asked (asked && nat_lt 0 (length kvs)) (live (with_any s (tombstones (s.store.revision + 1) 0 kvs)).store.versions
    (end_of ((with_any s (tombstones (s.store.revision + 1) 0 kvs)).store.revision - 1)) r) ≡ if_asked asked kvs
shown-kept s asked r [] is = asked-nothing asked _ ∙ sym (if_asked-none asked)
shown-kept s asked r (kv ∷ kvs) is =
    let some : nat_lt 0 (length (kv ∷ kvs)) ≡ true = lt-ltb 0 (length (kv ∷ kvs)) (omega arith) in
    λ i. if_asked (and-true asked _ some i) ((live-before s (kv ∷ kvs) r (λ e. let bad : kv ∷ kvs ≡ [] = e in cc) ∙ is) i)

-- ---- a delete

-- a delete that a core made, of so many keys
pub record WasDeleted (s new : CoreState) (d : DeleteRequest) (n : ℕ) : Type 0 where
  pub clear : fault_of_delete s.store d ≡ None
  pub made : new ≡ after_delete s d
  pub counted : n ≡ length (live_in s.store d.range)
  pub few : n ≤ 2 ^ 64

delete-makes : (s new : CoreState) (d : DeleteRequest) (n : ℕ) → WasDeleted s new d n → (w : World) → StandsFor s.store w
    → Makes w (Call.delete d) (reply_of_delete s.store d) (after_delete s d).store
delete-makes s new d n was w h =
    let kvs : List KeyValue = live_in s.store d.range in
    let us : List Mutation = changes_of_delete s.store d in
    record {
      after = changed_by w us;
      made = delete_told s.store w h d ∙ made_first (refusal_of_delete d) _ _ _
          (λ none. commit_made s.store.revision (reply_of_delete s.store d) w us
          (deletes-spent s.store.revision (s.store.revision + 1) kvs ∙ none))
          was.clear;
      stands = committed s.store (after_delete s d).store us w (record {
        stood = h;
        stands = delete_stands s.store w h d (subst (λ m. m ≤ 2 ^ 64) was.counted was.few);
        grows = any-grows s kvs;
        stays = any-stays s kvs;
      });
    }

pub delete_done : (s new : CoreState) (d : DeleteRequest) (n : ℕ) (range : Bor KeyRange) → range.now ≡ d.range → WasDeleted s new d n
    → CarriesOut s new (Call.delete d) (todo.Delete range d.prev_kv n)
delete_done s new d n range same was =
    let told : Reply.delete n
    (if_asked (d.prev_kv && nat_lt 0 n)
    (live (after_delete s d).store.versions (end_of ((after_delete s d).store.revision - 1)) range.now))
    ≡ reply_of_delete s.store d
    = (λ i. Reply.delete (was.counted i) (if_asked (d.prev_kv && nat_lt 0 (was.counted i))
    (live (after_delete s d).store.versions (end_of ((after_delete s d).store.revision - 1)) (same i))))
    ∙ ap (λ kvs. Reply.delete (length (live_in s.store d.range)) kvs) (shown-kept s d.prev_kv d.range (live_in s.store d.range) refl) in
    subst (λ (t : CoreState). CarriesOut s t (Call.delete d) (todo.Delete range d.prev_kv n)) (sym was.made) (record {
      makes = λ w h. subst (λ r. Makes w (Call.delete d) r (after_delete s d).store) (sym told) (delete-makes s new d n was w h);
      allowed = tt;
      beside = λ w h. refl;
      moves = any_moves s (added_by_delete s.store d) false (tombstones_at (s.store.revision + 1) 0 (live_in s.store d.range));
    })

-- ---- what is refused

-- the model refuses a delete as the store does
delete-refused : (s : Store) (w : World) (d : DeleteRequest) (e : Refusal) → StandsFor s w → fault_of_delete s d ≡ Some e
    → made_in w (Call.delete d) ≡ Err e
delete-refused s w d e h one = delete_told s w h d ∙ refused_first (refusal_of_delete d) _ _ e
    (λ spent. commit_spent s.revision (reply_of_delete s d) w (changes_of_delete s d) e
    (deletes-spent s.revision (s.revision + 1) (live_in s d.range) ∙ spent)) one

pub delete_refuses : (s new : CoreState) (d : DeleteRequest) (e : Refusal)
    → IsFirst e (refusal_of_delete d) (fault_of_delete s.store d) → new ≡ s → Refuses s new (Call.delete d) e
delete_refuses s new d e r same = record {
  first = λ w h f one. fault_told e f (refusal_of_delete d) (fault_of_delete s.store d) r one;
  refused = λ w h. is_refused w (Call.delete d) e (fault_of_delete s.store d)
      (first_or_later e (refusal_of_delete d) (fault_of_delete s.store d)
      (ap (λ o. option_or o (refuse_if (not (is_empty (live_in s.store d.range)) && is_spent s.store.revision) RevisionsSpent))) r)
      (λ f one. delete-refused s.store w d f h one);
  free = λ no. let bad : true ≡ false = no in cc;
  kept = same;
}
