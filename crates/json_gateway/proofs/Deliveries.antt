-- What a watch is told is what the model tells.
use Rattle.std.proofs.Common.{◌≡◌, ℕ, ℤ, pos, List, [], ◌∷◌, Bool, true, false, cond, Option, None, Some, Result, Ok, Err, refl, sym, ◌∙◌, ap, subst}
use Rattle.std.specs.Prelude.{nat_lt, is_some, option_map, unwrap_or, IfOk, MatchBool, ⊤}
use Rattle.std.specs.List.{list_any}
use Rattle.std.specs.declared.alloc.AllocError.{AllocError}
use Rattle.kv_model.specs.declared.ids.Ids.{Ids}
use Rattle.kv_model.specs.declared.version.Version.{Version}
use Rattle.kv_model.specs.declared.refusal.Refusal.{Refusal}
use Rattle.kv_model.specs.declared.refusal.Refusal.TheVariants.{NoWatch}
use Rattle.kv_model.specs.Answers.{message_text}
use Rattle.kv_model.specs.Watches.{Delivery as ModelDelivery, deliver, delivery, delivery_of, message_of, undelivered}
use Rattle.kv_model.specs.Wire as model
use Rattle.kv_model.specs.Wire.{WireTold, client_id, tell_message, wire_step}
use Rattle.kv_model.specs.World.{World, Watch, revision, versions, watch_at}
use Rattle.store_laws.specs.Stands.{StandsFor}
use Rattle.watch_hub.specs.declared.delivery.Delivery.{Delivery}
use Rattle.watch_hub.specs.declared.delivery.Delivery.TheVariants.{Nothing, Events, Cancelled}
use Rattle.watch_hub.specs.Messages.{delivery_view}
use Rattle.request_core.specs.Answers.{is_memory}
use Rattle.request_core.specs.State.{CoreState}
use Rattle.json_gateway.specs.declared.outcome.Message.{Message}
use Rattle.json_gateway.specs.Runs.{message_view}

-- where there is a delivery, some watch has the number
stands : (w : World) (o : Option Watch) (d : Delivery) → delivery_view d ≡ delivery w o → is_some o ≡ true
stands w (Some x) d e = refl
stands w None Nothing e = absurd (cc)
stands w None (Events es) e = absurd (cc)
stands w None (Cancelled c) e = absurd (cc)

-- and where there is none, no watch has it
is-none : (w : World) (o : Option Watch) → delivery w o ≡ ModelDelivery.no_watch → is_some o ≡ false
is-none w None e = refl
is-none w (Some x) e = by x.late (undelivered (versions w) x) e
  where
    early : (b : Bool) (us : List Version) → cond b (ModelDelivery.cancelled w.compacted) (ModelDelivery.events (message_of (versions w) w.compacted x us)) ≡ ModelDelivery.no_watch
        → true ≡ false
    early true us e = absurd (cc)
    early false us e = absurd (cc)

    by : (b : Bool) (us : List Version) → cond b (ModelDelivery.cancelled w.compacted) (delivery_of (versions w) w.compacted x us) ≡ ModelDelivery.no_watch → true ≡ false
    by true us e = absurd (cc)
    by false [] e = absurd (cc)
    by false (u ∷ us) e = early (list_any (λ (v : Version). nat_lt v.rev.main w.compacted) (u ∷ us)) (u ∷ us) e

named : (o : Option ℤ) (x : Option Watch) → o ≡ option_map (λ (y : Watch). y.id) x → unwrap_or o (pos 0) ≡ client_id x
named o x e = ap (λ p. unwrap_or p (pos 0)) e ∙ by x
  where
    by : (y : Option Watch) → unwrap_or (option_map (λ (z : Watch). z.id) y) (pos 0) ≡ client_id y
    by None = refl
    by (Some y) = refl

-- what a message is in each world that a core stands for
abbrev pub TellsIn : Ids → CoreState → ℕ → Message → Type 0
TellsIn ids s n m = (w : World) → StandsFor s.store w → message_view m ≡ (wire_step ids w (model.WireEvent.deliver n)).0

module _ (ids : Ids) (s : CoreState) (n : ℕ) (r : Result Message AllocError) where
  pub delivered_worlds : (o : Option ℤ) (d : Delivery) (now : ℕ) (id : ℤ) → now ≡ s.store.revision → id ≡ unwrap_or o (pos 0)
      → ((w : World) → StandsFor s.store w → o ≡ option_map (λ (x : Watch). x.id) (watch_at w.watches n))
      → ((w : World) → StandsFor s.store w → delivery_view d ≡ (deliver w n).0)
      → IfOk r (λ m. message_view m ≡ tell_message true (message_text ids now id (delivery_view d))) → IfOk r (TellsIn ids s n)
  delivered_worlds o d now id at is names tells = by r
    where
      by : (q : Result Message AllocError) → IfOk q (λ m. message_view m ≡ tell_message true (message_text ids now id (delivery_view d)))
          → IfOk q (TellsIn ids s n)
      by (Ok m) e = λ w h.
          let some : is_some (watch_at w.watches n) ≡ true = stands w (watch_at w.watches n) d (tells w h) in
          let revision_is : now ≡ revision w = at ∙ h.revision_is in
          let id_is : id ≡ client_id (watch_at w.watches n) = is ∙ named o (watch_at w.watches n) (names w h) in
          e ∙ (λ i. tell_message (sym some i) (message_text ids (revision_is i) (id_is i) (tells w h i)))
      by (Err x) e = tt

  pub untold_worlds : (e : Refusal)
      → MatchBool (is_memory e) ⊤ ((e ≡ NoWatch) × ((w : World) → StandsFor s.store w → (deliver w n).0 ≡ ModelDelivery.no_watch))
      → IfOk r (λ m. (message_view m ≡ WireTold.no_watch) × (is_memory e ≡ false)) → IfOk r (TellsIn ids s n)
  untold_worlds e refused = by r
    where
      by : (q : Result Message AllocError) → IfOk q (λ m. (message_view m ≡ WireTold.no_watch) × (is_memory e ≡ false)) → IfOk q (TellsIn ids s n)
      by (Ok m) h =
          let found : (e ≡ NoWatch) × ((w : World) → StandsFor s.store w → (deliver w n).0 ≡ ModelDelivery.no_watch)
          = subst (λ b. MatchBool b ⊤ ((e ≡ NoWatch) × ((w : World) → StandsFor s.store w → (deliver w n).0 ≡ ModelDelivery.no_watch))) h.1 refused in
          λ w k.
          let none : is_some (watch_at w.watches n) ≡ false = is-none w (watch_at w.watches n) (found.1 w k) in
          h.0 ∙ sym (λ i. tell_message (none i) (message_text ids (revision w) (client_id (watch_at w.watches n)) (found.1 w k i)))
      by (Err x) h = tt
