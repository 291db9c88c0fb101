-- How a watch is made, what it is told and how it goes on, in each world that a core stands for.
use Rattle.std.proofs.Common.{◌≡◌, ◌⊎◌, inl, inr, ℕ, ◌+◌, ℤ, List, [], ◌∷◌, ◌++◌, filter, Bool, true, false, ◌&&◌, cond, Option, None, Some}
use Rattle.std.proofs.Common.{Result, Ok, Err, refl, sym, ◌∙◌, ap, subst, arith, lt-ltb}
use Rattle.std.specs.Prelude.{nat_lt, nat_le, option_map, is_ok, is_some, IfOk, IfErr, OnErr, MatchBool, ⊤}
use Rattle.kv_model.specs.declared.call.Watched.{Watched}
use Rattle.kv_model.specs.declared.refusal.Refusal.{Refusal}
use Rattle.kv_model.specs.declared.refusal.Refusal.TheVariants.{Memory, NoWatch}
use Rattle.kv_model.specs.Calls.{Call}
use Rattle.kv_model.specs.Told.{Reply}
use Rattle.kv_model.specs.Step.{refused_or, answer_of}
use Rattle.kv_model.specs.World.{World, Watch, watch_at}
use Rattle.kv_model.specs.declared.version.Version.{Version}
use Rattle.kv_model.specs.Watches.{Delivery as ModelDelivery, deliver, matches}
use Rattle.store_laws.specs.Stands.{StandsFor, Tracked}
use Rattle.store_laws.specs.Stores.{refusal_of_watch, watch_made}
use Rattle.store_laws.proofs.StandsWatches.{watch_stands, watch_told}
use Rattle.lease_book.specs.Book.{Book}
use Rattle.range_view.specs.Stored.{Stored}
use Rattle.watch_hub.specs.declared.delivery.Delivery.{Delivery}
use Rattle.watch_hub.specs.Delivering.{delivery_due, delivery_from, message_from, told_at}
use Rattle.watch_hub.specs.Hub.{Hub, PendingWatch, pending_of, tracked_at, without_tracked}
use Rattle.watch_hub.specs.Messages.{delivery_view}
use Rattle.watch_hub.proofs.Delivered.{client_ids, delivery_told, none_goes}
use Rattle.request_core.specs.declared.answer.Todo.TheVariants as todo
use Rattle.request_core.specs.Answers.{IsFault, is_memory}
use Rattle.request_core.specs.Commands.{CarriesOut, Makes, Moves, Refuses, first_refusal}
use Rattle.lease_keys.specs.Pairs.{Pairs}
use Rattle.request_core.specs.Apart.{RestState}
use Rattle.request_core.specs.State.{CoreState, after_watch, core_state}
use Rattle.request_core.proofs.Worlds.{changed-beside, fault_refusal, is_refused, made_refused, refusal_told, rests}

-- ---- a watch is made

watch-makes : (s : CoreState) (watched : Watched) (start id : ℤ) → refusal_of_watch s.store ≡ None → (w : World) → StandsFor s.store w
    → Makes w (Call.watch watched start id) (Reply.watch id (s.store.made + 1)) (after_watch s watched start id).store
watch-makes s watched start id clear w h =
    let after : World = record w { watches = w.watches ++ watch_made s.store watched start id ∷ []; made = s.store.made + 1 } in
    record {
      after = after;
      made = watch_told s.store w h watched start id
          ∙ ap (λ o. refused_or o (Ok (Reply.watch id (s.store.made + 1), after))) clear;
      stands = watch_stands s.store w h watched start id;
    }

-- a watch that a core made
pub record WasMade (s new : CoreState) (watched : Watched) (start id : ℤ) (number : ℕ) : Type 0 where
  pub clear : refusal_of_watch s.store ≡ None
  pub made : new ≡ after_watch s watched start id
  pub number_is : number ≡ s.store.made + 1

watch-moves : (s : CoreState) (watched : Watched) (start id : ℤ) (number : ℕ) → number ≡ s.store.made + 1
    → Moves s (after_watch s watched start id) true (Some number)
watch-moves s watched start id number is = record {
  keeps = rests s (after_watch s watched start id) refl refl refl;
  unchanged = changed-beside (nat_lt s.store.revision s.store.revision);
  stamp = refl;
  watches = ap (λ b. cond b (Some (s.store.made + 1)) None) (lt-ltb s.store.made (s.store.made + 1) (omega arith))
      ∙ ap (λ n. Some n) (sym is);
}

pub watch_done : (s new : CoreState) (watched : Watched) (start id : ℤ) (number : ℕ) → WasMade s new watched start id number
    → CarriesOut s new (Call.watch watched start id) (todo.Watch id number)
watch_done s new watched start id number was =
    subst (λ (n : CoreState). CarriesOut s n (Call.watch watched start id) (todo.Watch id number)) (sym was.made) (record {
      makes = λ w h. subst (λ n. Makes w (Call.watch watched start id) (Reply.watch id n) (after_watch s watched start id).store)
          (sym was.number_is) (watch-makes s watched start id was.clear w h);
      allowed = tt;
      beside = λ w h. refl;
      moves = watch-moves s watched start id number was.number_is;
    })

pub watch_refuses : (s new : CoreState) (watched : Watched) (start id : ℤ) (e : Refusal) → IsFault e (refusal_of_watch s.store)
    → new ≡ s → Refuses s new (Call.watch watched start id) e
watch_refuses s new watched start id e r same = record {
  first = λ w h f one. refusal_told w (Call.watch watched start id) e f (refusal_of_watch s.store)
      (ap (λ m. first_refusal (answer_of m)) (watch_told s.store w h watched start id) ∙ made_refused (refusal_of_watch s.store) _) r one;
  refused = λ w h. is_refused w (Call.watch watched start id) e (refusal_of_watch s.store) (fault_refusal e (refusal_of_watch s.store) r)
      (λ f one. watch_told s.store w h watched start id ∙ ap (λ o. refused_or o (Ok (
        Reply.watch id (s.store.made + 1),
        record w { watches = w.watches ++ watch_made s.store watched start id ∷ []; made = s.store.made + 1 },
      ))) one);
  free = λ no. let bad : true ≡ false = no in cc;
  kept = same;
}

-- ---- what it is told

-- what the hub and the tables of a core tell
abbrev pub told_in : CoreState → ℕ → ModelDelivery
told_in s n = told_at s.store.versions s.store.compacted (option_map pending_of (tracked_at s.store.watches n))

pub told_worlds : (s : CoreState) (n : ℕ) (r : Result Delivery Refusal) → IfOk r (λ d. delivery_view d ≡ told_in s n)
    → IfOk r (λ d. (w : World) → StandsFor s.store w → delivery_view d ≡ (deliver w n).0)
told_worlds s n (Ok d) e = λ w h. e ∙ delivery_told s.store w h n
told_worlds s n (Err e) h = tt

abbrev pub IsUntold : CoreState → ℕ → Refusal → Type 0
IsUntold s n e = MatchBool (is_memory e) ⊤ ((e ≡ NoWatch) × ((w : World) → StandsFor s.store w → (deliver w n).0 ≡ ModelDelivery.no_watch))

pub untold_worlds : (s : CoreState) (n : ℕ) (r : Result Delivery Refusal)
    → IfErr r (λ e. ((e ≡ NoWatch) × (tracked_at s.store.watches n ≡ None)) ⊎ ((e ≡ Memory) × (is_some (tracked_at s.store.watches n) ≡ true)))
    → IfErr r (λ e. IsUntold s n e)
untold_worlds s n (Ok d) h = tt
untold_worlds s n (Err e) (inl h) = subst (IsUntold s n) (sym h.0) (
  refl,
  λ w k. sym (delivery_told s.store w k n)
      ∙ ap (λ (o : Option Tracked). told_at s.store.versions s.store.compacted (option_map pending_of o)) h.1,
)
untold_worlds s n (Err e) (inr h) = subst (IsUntold s n) (sym h.0) tt

-- of a watch that stands something is told: only of one that is not there is there nothing to say
watch-told : (vs : List Version) (c : ℕ) (p : PendingWatch) → delivery_due vs c p ≡ ModelDelivery.no_watch → ⊥
watch-told vs c p e = by p.late p.first e
  where
    after : (b : Bool) (m : ℕ)
        → cond b (ModelDelivery.cancelled c)
        (ModelDelivery.events (message_from vs c p.watched (filter (λ v. nat_le m v.rev.main && matches p.watched v) vs)))
        ≡ ModelDelivery.no_watch → ⊥
    after true m e = cc
    after false m e = cc

    by : (b : Bool) (o : Option ℕ) → cond b (ModelDelivery.cancelled c) (delivery_from vs c p.watched o) ≡ ModelDelivery.no_watch → ⊥
    by true o e = cc
    by false None e = cc
    by false (Some m) e = after (nat_lt m c) m e

abbrev pub IsMissing : CoreState → ℕ → Refusal → Type 0
IsMissing s n e = (w : World) → StandsFor s.store w → (deliver w n).0 ≡ ModelDelivery.no_watch → e ≡ NoWatch

pub missing_worlds : (s : CoreState) (n : ℕ) (r : Result Delivery Refusal)
    → IfErr r (λ e. ((e ≡ NoWatch) × (tracked_at s.store.watches n ≡ None)) ⊎ ((e ≡ Memory) × (is_some (tracked_at s.store.watches n) ≡ true)))
    → IfErr r (λ e. IsMissing s n e)
missing_worlds s n (Ok d) h = tt
missing_worlds s n (Err e) (inl h) = λ w k none. h.0
missing_worlds s n (Err e) (inr h) = λ w k none. by (tracked_at s.store.watches n) h.1 (delivery_told s.store w k n ∙ none)
  where
    by : (o : Option Tracked) → is_some o ≡ true → told_at s.store.versions s.store.compacted (option_map pending_of o) ≡ ModelDelivery.no_watch
        → e ≡ NoWatch
    by None some none = cc
    by (Some t) some none = absurd (watch-told s.store.versions s.store.compacted (pending_of t) none)

-- the client's number for a watch is this, in each world
abbrev pub IsNamed : CoreState → ℕ → Option ℤ → Type 0
IsNamed s n id = (w : World) → StandsFor s.store w → id ≡ option_map (λ (x : Watch). x.id) (watch_at w.watches n)

pub id_worlds : (s : CoreState) (n : ℕ) (o : Option PendingWatch) → option_map pending_of (tracked_at s.store.watches n) ≡ o
    → IsNamed s n (option_map (λ (p : PendingWatch). p.id) o)
id_worlds s n o e = λ w h. ap (option_map (λ (p : PendingWatch). p.id)) (sym e) ∙ client_ids s.store w h n

-- a watch that was not there leaves the core as it was
pub cancelled_same : (r : Result (Unit {0}) Refusal) (n stamp : ℕ) (t : Stored) (b : Book) (h new : Hub) (s : CoreState)
    → is_ok r ≡ is_some (tracked_at h.watches n) → new ≡ record h { watches = without_tracked n h.watches } → core_state t b h stamp ≡ s
    → OnErr r (core_state t b new stamp ≡ s)
cancelled_same (Ok u) n stamp t b h new s f e is = tt
cancelled_same (Err x) n stamp t b h new s f e is =
    (λ i. core_state t b (e i) stamp) ∙ ap (λ ts. core_state t b (record h { watches = ts }) stamp) (none_goes h.watches n (sym f)) ∙ is

-- and of what a core is besides its tables
pub rest_same : (r : Result (Unit {0}) Refusal) (n : ℕ) (b : Book) (ps : Pairs) (h : Hub) (stamp : ℕ) (new : Hub) (s : RestState)
    → is_ok r ≡ is_some (tracked_at h.watches n) → new ≡ record h { watches = without_tracked n h.watches }
    → record { book = b; keys = ps; hub = h; stamp = stamp } ≡ s → OnErr r (record { book = b; keys = ps; hub = new; stamp = stamp } ≡ s)
rest_same (Ok u) n b ps h stamp new s f e is = tt
rest_same (Err x) n b ps h stamp new s f e is =
    (λ i. record { book = b; keys = ps; hub = e i; stamp = stamp })
    ∙ ap (λ ts. record { book = b; keys = ps; hub = record h { watches = ts }; stamp = stamp }) (none_goes h.watches n (sym f)) ∙ is
