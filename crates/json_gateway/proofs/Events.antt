-- A run goes on by one event at a time.
use Rattle.std.proofs.Common.{◌≡◌, ℕ, ◌==◌, Bool, true, false, cond, Result, Ok, Err, ◌+◌, ◌<◌, ◌≤◌, List, [], ◌∷◌, ◌++◌, length, get_or, drop, map}
use Rattle.std.proofs.Common.{Option, None, refl, sym, ◌∙◌, ap, subst, append_assoc, add-one, drop-cons}
use Rattle.std.specs.Prelude.{is_some, IfOk, IfSome, MatchBool, OnOk, OnErr, ⊤}
use Rattle.std.specs.declared.alloc.AllocError.{AllocError}
use Rattle.std.proofs.lemmas.List.{append-nil, drop_all, map-append}
use Rattle.kv_model.specs.declared.ids.Ids.{Ids}
use Rattle.kv_model.specs.declared.refusal.Refusal.{Refusal}
use Rattle.kv_model.specs.declared.refusal.Refusal.TheVariants.{RevisionsSpent}
use Rattle.kv_model.specs.Answers.{Response}
use Rattle.kv_model.specs.Calls.{Call}
use Rattle.kv_model.specs.Follows as follows
use Rattle.kv_model.specs.Headline.{IsRun, KeepsWell, Changes, IsDone, Keeping, Trims, dump_of, kept_after}
use Rattle.kv_model.specs.Certificates.{claims_of, Claim, Dump}
use Rattle.kv_model.specs.Requests.{Bad, request_of}
use Rattle.kv_model.specs.Step.{expire}
use Rattle.kv_model.specs.Told.{Expiry as ModelExpiry, Trimmed}
use Rattle.kv_model.specs.Watches.{deliver as delivered}
use Rattle.kv_model.specs.Wire as model
use Rattle.kv_model.specs.Wire.{WireTold, wire_step, is_free, is_physical_call, takes_memory, MayLose, reply_to, IsChangeBy, trim_told}
use Rattle.kv_model.specs.World.{World, at_moment, opening, watch_at, without_watch}
use Rattle.store_laws.specs.Stands.{StandsFor}
use Rattle.store_laws.specs.TrimmingLaws.{IsVisit}
use Rattle.store_laws.proofs.KeepingLaws.{opens_kept, rests_kept}
use Rattle.trim_core.specs.declared.trimmer.Trim.{Trim}
use Rattle.trim_core.specs.Told.{told_of}
use Rattle.request_core.specs.declared.answer.Expiry.{Expiry}
use Rattle.request_core.specs.declared.answer.Expiry.TheVariants as expiry
use Rattle.request_core.specs.Answers.{expiry_view, is_memory}
use Rattle.request_core.specs.Commands.{ExpiresIn, MayTrim, RefusesExpiry, TrimsOnce}
use Rattle.request_core.specs.State.{CoreState, after_moment, dump_kept, keeping_of, with_watches}
use Rattle.json_gateway.specs.declared.outcome.Certified.{Certified}
use Rattle.json_gateway.specs.declared.outcome.Message.{Message}
use Rattle.json_gateway.specs.declared.outcome.Outcome.{Outcome}
use Rattle.json_gateway.specs.declared.outcome.Reply.{Reply}
use Rattle.json_gateway.specs.declared.outcome.Settled.{Settled}
use Rattle.json_gateway.specs.declared.outcome.Settled.TheVariants as settled
use Rattle.json_gateway.specs.declared.wire.Unexpired.{Unexpired}
use Rattle.json_gateway.specs.declared.wire.Unexpired.TheVariants as unexpired
use Rattle.json_gateway.specs.declared.wire.WireEvent.{WireEvent}
use Rattle.json_gateway.specs.declared.wire.WireOutcome.{WireOutcome}
use Rattle.json_gateway.specs.Endings.{Ends, EndsAs, KeepsAs}
use Rattle.json_gateway.specs.Outcomes.{is_accepted, response_of}
use Rattle.json_gateway.specs.Runs.{certified_outcome, command_view, delivery_outcome, event_view, expired_view, expiry_outcome, outcome_view, ending_view}
use Rattle.json_gateway.specs.Steps.{Steps, TrimsWhere}
use Rattle.json_gateway.proofs.Deliveries.{TellsIn}
use Rattle.json_gateway.proofs.Keeps.{delivery_rests, same_kept, spent_rests, waiting_accepted, watches_keep}

-- ---- requests

-- what a request came to, from the first state to the second, and the trimming steps that its answer waits for, to the third
pub record Posts (ids : Ids) (w : World) (path body : List ℕ) (o : Outcome) (old between new : CoreState) : Type 0 where
  pub stood : StandsFor old.store w
  pub ends : Ends o old between w (reply_to ids w path body).0 (reply_to ids w path body).1 (λ l. IsChangeBy w l (request_of path body))
  pub keeps : KeepsAs o.settled old between w (reply_to ids w path body).1
  pub ready : is_accepted o.settled ≡ false → o.waits ≡ false
  pub waits : is_accepted o.settled ≡ true → o.waits ≡ is_physical_call w (request_of path body)
  pub trims : TrimsWhere o.waits between new

-- that is one step of a run
pub post_steps : (ids : Ids) (w : World) (path body : List ℕ) (o : Outcome) (old between new : CoreState)
    → Posts ids w path body o old between new → Steps ids w (model.WireEvent.post path body) (command_view o) old new
post_steps ids w path body o old between new p = by o.settled p.ends p.keeps p.ready p.waits
  where
    call : Result Call Bad
    call = request_of path body

    after : World
    after = (reply_to ids w path body).1

    -- what is left of an accepted request, where its answer waits and where it does not
    trimmed : (b : Bool) → TrimsWhere b between new → StandsFor between.store after
        → keeping_of between ≡ kept_after w after (keeping_of old)
        → StandsFor new.store after × Changes b w after (keeping_of old) (keeping_of new)
    trimmed true t h k = t after h
    trimmed false t h k = (subst (λ (s : CoreState). StandsFor s.store after) (sym t) h, ap keeping_of t ∙ k)

    left : StandsFor between.store after → keeping_of between ≡ kept_after w after (keeping_of old) → o.waits ≡ is_physical_call w call
        → StandsFor new.store after × Changes (is_physical_call w call) w after (keeping_of old) (keeping_of new)
    left h k e = subst (λ b. StandsFor new.store after × Changes b w after (keeping_of old) (keeping_of new)) e
        (trimmed o.waits p.trims h k)

    -- what is not accepted does not wait in the model either
    not-physical : (b : Bool) → is_physical_call w call ≡ b → ((reply_to ids w path body).0.status == 200) ≡ false → b ≡ false
    not-physical true e status = let bad : true ≡ false = ap (λ n. n == 200) (sym (waiting_accepted ids w call e)) ∙ status in cc
    not-physical false e status = refl

    waits-so : (r : Reply) (b : Bool) → (r.status == 200) ≡ b → response_of r ≡ (reply_to ids w path body).0 → (b ≡ false → o.waits ≡ false)
        → (b ≡ true → o.waits ≡ is_physical_call w call) → o.waits ≡ is_physical_call w call
    waits-so r true is told ready waits = waits refl
    waits-so r false is told ready waits = ready refl
        ∙ sym (not-physical (is_physical_call w call) refl (sym (ap (λ (x : Response). x.status == 200) told) ∙ is))

    unchanged : (t : Bool) → t ≡ false → TrimsWhere t between new → between ≡ old → new ≡ old
    unchanged true e t same = cc
    unchanged false e t same = t ∙ same

    by : (s : Settled) → EndsAs s o.raised o.watch old between w (reply_to ids w path body).0 after (λ l. IsChangeBy w l call)
        → KeepsAs s old between w after → (is_accepted s ≡ false → o.waits ≡ false)
        → (is_accepted s ≡ true → o.waits ≡ is_physical_call w call)
        → Steps ids w (model.WireEvent.post path body) (ending_view s o.raised o.watch) old new
    by (settled.Reply r) e k ready waits =
        let gone = left e.3 k (waits-so r (r.status == 200) refl e.0 ready waits) in
        record { answers = λ i. WireTold.reply (e.0 i) (e.1 i) (e.2 i); stands = gone.0; keeps = gone.1 }
    by settled.Memory e k ready waits =
        let same : new ≡ old = unchanged o.waits (ready refl) p.trims e in
        record {
          answers = refl;
          stands = subst (λ (s : CoreState). StandsFor s.store w) (sym same) p.stood;
          keeps = ap keeping_of same;
        }
    by (settled.Lost revision) e k ready waits =
        let gone = left e.1 k (waits refl) in record { answers = e.0; stands = gone.0; keeps = gone.1 }

-- what is kept, shown as a world that is stood for shows it
dump_stood : (s : CoreState) (w : World) → StandsFor s.store w → dump_kept s.store ≡ dump_of w s.store.versions
dump_stood s w h = λ i. record { floor = h.compacted i; revision = h.revision_is i; versions = s.store.versions }

-- ---- other events

-- the clock goes on
pub moment_steps : (ids : Ids) (w : World) (m : ℕ) (clock : ℕ) (old new : CoreState) → new ≡ after_moment old m
    → StandsFor new.store (at_moment w m) → clock ≡ (at_moment w m).clock
    → Steps ids w (model.WireEvent.moment m) (follows.Outcome.said (WireTold.clock clock)) old new
moment_steps ids w m clock old new made h e = record {
  answers = ap (λ n. WireTold.clock n) e;
  stands = h;
  keeps = ap keeping_of made ∙ rests_kept w (at_moment w m) (keeping_of old) refl refl;
}

-- a step of expiry, and one that is refused
pub expired_steps : (ids : Ids) (w : World) (e : Expiry) (old new : CoreState) → ExpiresIn old new e w (expire w).0 (expire w).1
    → Steps ids w model.WireEvent.expire (expiry_outcome (Ok e)) old new
expired_steps ids w e old new h = record {
  answers = ap (λ x. WireTold.expiry x) (sym (viewed e) ∙ h.tells);
  stands = h.stands;
  keeps = h.keeps;
}
  where
    viewed : (e : Expiry) → expiry_view e ≡ expired_view e
    viewed expiry.Nothing = refl
    viewed (expiry.Expired id revision raised) = refl

pub unexpired_steps : (ids : Ids) (w : World) (e : Refusal) (why : Unexpired) (old new : CoreState) → RefusesExpiry old new e
    → why ≡ cond (is_memory e) unexpired.Memory unexpired.RevisionsSpent → StandsFor old.store w
    → Steps ids w model.WireEvent.expire (expiry_outcome (Err why)) old new
unexpired_steps ids w e why old new d is h = subst (λ (x : Unexpired). Steps ids w model.WireEvent.expire (expiry_outcome (Err x)) old new)
    (sym is) (by (is_memory e) d.refused)
  where
    by : (b : Bool) → MatchBool b ⊤ ((e ≡ RevisionsSpent) × ((u : World) → StandsFor old.store u → (expire u).0 ≡ ModelExpiry.spent))
        → Steps ids w model.WireEvent.expire (expiry_outcome (Err (cond b unexpired.Memory unexpired.RevisionsSpent))) old new
    by true r = record {
      answers = refl;
      stands = subst (λ (s : CoreState). StandsFor s.store w) (sym d.kept) h;
      keeps = ap keeping_of d.kept;
    }
    by false r =
        let rests : (expire w).1 ≡ w = spent_rests w (r.1 w h) in
        record {
          answers = ap (λ x. WireTold.expiry x) (sym (r.1 w h));
          stands = subst (λ (u : World). StandsFor new.store u) (sym rests) (subst (λ (s : CoreState). StandsFor s.store w) (sym d.kept) h);
          keeps = same_kept old new w (expire w).1 d.kept rests;
        }

-- what a watch was told is one step, and where no memory was found for it nothing has changed
pub message_steps : (ids : Ids) (w : World) (n : ℕ) (r : Result Message AllocError) (old new : CoreState) → StandsFor old.store w
    → IfOk r (TellsIn ids old n)
    → OnOk r ((u : World) → StandsFor old.store u → StandsFor new.store (wire_step ids u (model.WireEvent.deliver n)).1)
    → OnErr r (new ≡ old) → new ≡ with_watches new.store.watches old
    → Steps ids w (model.WireEvent.deliver n) (delivery_outcome r) old new
message_steps ids w n (Ok m) old new h told after same others =
    let rests = delivery_rests w n (delivered w n).0 in
    record {
      answers = told w h;
      stands = after w h;
      keeps = watches_keep old new w (delivered w n).1 new.store.watches others rests.0 rests.1;
    }
message_steps ids w n (Err e) old new h told after same others = record {
  answers = refl;
  stands = subst (λ (s : CoreState). StandsFor s.store w) (sym same) h;
  keeps = ap keeping_of same;
}

-- the end of a watch is one step
pub close_steps : (ids : Ids) (w : World) (n : ℕ) (stood : Bool) (old new : CoreState) → stood ≡ is_some (watch_at w.watches n)
    → StandsFor new.store (record w { watches = without_watch n w.watches }) → new ≡ with_watches new.store.watches old
    → Steps ids w (model.WireEvent.close n) (follows.Outcome.said (WireTold.closed stood)) old new
close_steps ids w n stood old new e h others = record {
  answers = ap (λ b. WireTold.closed b) e;
  stands = h;
  keeps = watches_keep old new w (record w { watches = without_watch n w.watches }) new.store.watches others refl refl;
}

-- a trimming step changes no world, and is one that a run may make, told with the certificate of what is then kept
pub trim_steps : (ids : Ids) (w : World) (t : Trim) (certificate : Option (List Claim)) (old new : CoreState) → TrimsOnce old new t
    → IfSome certificate (λ claims. claims ≡ claims_of (dump_kept new.store)) → StandsFor old.store w
    → Steps ids w model.WireEvent.trim (follows.Outcome.said (trim_told (told_of t) certificate)) old new
trim_steps ids w t certificate old new once own h =
    let m : MayTrim w old new (told_of t) = once.trims w h in
    record { answers = tt; stands = m.stands; keeps = by (told_of t) once.visit m }
  where
    by : (told : Trimmed) → IsVisit told (keeping_of old).ahead (keeping_of new).ahead → MayTrim w old new told
        → Trims w (keeping_of old) (keeping_of old).ahead (trim_told told certificate) (keeping_of new)
    by (Trimmed.removed q) v m = m.may None tt
    by (Trimmed.kept q) v m = m.may None tt
    by (Trimmed.done n) v m =
        let done : IsDone w (keeping_of old) n None × (keeping_of new ≡ keeping_of old)
        = subst (λ us. Trims w (keeping_of old) us (WireTold.done n None) (keeping_of new)) v.0 (m.may None tt) in
        m.may certificate (subst (λ (d : Dump). IfSome certificate (λ claims. claims ≡ claims_of d))
        (dump_stood new w m.stands ∙ ap (λ (k : Keeping). dump_of w k.kept) done.1) own)

-- what is kept is shown, and changes nothing
pub certify_steps : (ids : Ids) (w : World) (r : Result Certified AllocError) (s : CoreState) → StandsFor s.store w
    → IfOk r (λ shown. shown.dump ≡ dump_kept s.store)
    → IfOk r (λ shown. shown.certificate ≡ claims_of (dump_kept s.store))
    → Steps ids w model.WireEvent.certify (certified_outcome r) s s
certify_steps ids w (Ok shown) s h dump claims =
    let stood : dump_kept s.store ≡ dump_of w s.store.versions = dump_stood s w h in
    record {
      answers = tt;
      stands = h;
      keeps = (λ i. WireTold.certified ((dump ∙ stood) i) ((claims ∙ ap claims_of stood) i), refl);
    }
certify_steps ids w (Err e) s h dump claims = record { answers = refl; stands = h; keeps = refl }

-- ---- runs

-- What was done of a run, and what is left of it: some world is stood for, and what goes on there with the rest, and keeps
-- well what is kept now, ends the run.
abbrev pub RunsOn : Ids → List model.WireEvent → List model.WireOutcome → List model.WireEvent → CoreState → Type 0
RunsOn ids es done rest s = (w : World) × StandsFor s.store w
    × ((os : List model.WireOutcome) → follows.FollowsFrom (wire_step ids) is_free takes_memory MayLose w rest os
    → KeepsWell ids w (keeping_of s) rest os → IsRun ids es (done ++ os))

pub run_start : (ids : Ids) (es : List model.WireEvent) (s : CoreState) → StandsFor s.store opening → RunsOn ids es [] es s
run_start ids es s h = (
  opening,
  h,
  λ os f k. record {
    follows = f;
    keeps = subst (λ l. KeepsWell ids opening l es os) (opens_kept s.store s.place s.store.compacted h) k;
  },
)

run_step : (ids : Ids) (es rest : List model.WireEvent) (done : List model.WireOutcome) (e : model.WireEvent) (o : model.WireOutcome)
    (s t : CoreState) → RunsOn ids es done (e ∷ rest) s → ((w : World) → StandsFor s.store w → Steps ids w e o s t)
    → RunsOn ids es (done ++ o ∷ []) rest t
run_step ids es rest done e o s t r step =
    let made : Steps ids r.0 e o s t = step r.0 r.1 in (
      follows.after_outcome (wire_step ids) r.0 e o,
      made.stands,
      λ os f k. subst (IsRun ids es) (sym (append_assoc done (o ∷ []) os))
          (r.2 (o ∷ os) (made.answers, f) (r.1.good, (keeping_of t, made.keeps, k))),
    )

-- one event of the program more
pub run_more : (ids : Ids) (es : List model.WireEvent) (events : List WireEvent) (outcomes : List WireOutcome) (i : ℕ) (d : WireEvent)
    (o : WireOutcome) (s t : CoreState) → i < length events → RunsOn ids es (map outcome_view outcomes) (map event_view (drop i events)) s
    → ((w : World) → StandsFor s.store w → Steps ids w (event_view (get_or events i d)) (outcome_view o) s t)
    → RunsOn ids es (map outcome_view (outcomes ++ o ∷ [])) (map event_view (drop (i + 1) events)) t
run_more ids es events outcomes i d o s t h r step =
    subst (λ os. RunsOn ids es os (map event_view (drop (i + 1) events)) t) (sym (map-append outcome_view outcomes (o ∷ [])))
    (run_step ids es (map event_view (drop (i + 1) events)) (map outcome_view outcomes) (event_view (get_or events i d)) (outcome_view o) s t
    (subst (λ (us : List model.WireEvent). RunsOn ids es (map outcome_view outcomes) us s) (ap (map event_view) (drop-cons events i d h
    ∙ ap (λ n. get_or events i d ∷ drop n events) (sym (add-one i)))) r) step)

pub run_end : (ids : Ids) (es : List model.WireEvent) (events : List WireEvent) (done : List model.WireOutcome) (i : ℕ) (s : CoreState)
    → length events ≤ i → RunsOn ids es done (map event_view (drop i events)) s → IsRun ids es done
run_end ids es events done i s h r =
    let none : map event_view (drop i events) ≡ [] = ap (map event_view) (drop_all i events h) in
    subst (IsRun ids es) (append-nil done)
    (r.2 [] (subst (λ us. follows.FollowsFrom (wire_step ids) is_free takes_memory MayLose r.0 us []) (sym none) tt)
    (subst (λ us. KeepsWell ids r.0 (keeping_of s) us []) (sym none) r.1.good))
