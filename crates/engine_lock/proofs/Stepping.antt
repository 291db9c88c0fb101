-- What the steps of the core and of the feed come to as events.
use Rattle.std.proofs.Common.{◌≡◌, ◌==◌, ℕ, Bool, true, false, cond, List, [], ◌∷◌, ◌++◌, fold, Option, None, Result, Ok, Err, refl, sym, ◌∙◌, ap, subst, append_assoc, arith, length}
use Rattle.std.specs.Prelude.{IfOk, IfErr, OnOk, OnErr, MatchBool, is_some, ⊤}
use Rattle.std.proofs.lemmas.List.{append-nil, drop_all}
use Rattle.std.specs.declared.alloc.AllocError.{AllocError}
use Rattle.kv_model.specs.declared.call.Command.{Command}
use Rattle.kv_model.specs.declared.ids.Ids.{Ids}
use Rattle.kv_model.specs.declared.refusal.Refusal.{Refusal}
use Rattle.kv_model.specs.declared.refusal.Refusal.TheVariants.{RevisionsSpent}
use Rattle.kv_model.specs.Answers.{Response, response_to}
use Rattle.kv_model.specs.Calls.{Call}
use Rattle.kv_model.specs.Commands.{call_of}
use Rattle.kv_model.specs.Feed.{Published}
use Rattle.kv_model.specs.Follows.Outcome.{memory, said}
use Rattle.kv_model.specs.Step.{Made, answer_of, expire, made_in, perform}
use Rattle.kv_model.specs.Told as told
use Rattle.kv_model.specs.Wire.{IsChange, WireEvent, WireOutcome, WireTold, trim_told, wire_step}
use Rattle.kv_model.specs.World.{World, at_moment, versions, watch_at, without_watch}
use Rattle.store_laws.specs.Changes.{Takes, batch_of, change_between, change_of, change_of_expiry}
use Rattle.store_laws.proofs.ChangeLaws.{change_added}
use Rattle.store_laws.specs.Snapshots.{absorb}
use Rattle.store_laws.specs.Stands.{StandsFor}
use Rattle.trim_core.specs.declared.trimmer.Trim.{Trim}
use Rattle.trim_core.specs.Told.{told_of}
use Rattle.request_core.specs.declared.answer.Expiry.{Expiry}
use Rattle.request_core.specs.declared.answer.Expiry.TheVariants as expiry
use Rattle.request_core.specs.Answers.{expiry_view, is_memory}
use Rattle.request_core.specs.Commands.{Expires, IsToldChange, IsToldExpiry, RefusesExpiry, StoresChange, StoresExpiry, TrimsOnce}
use Rattle.request_core.specs.State.{CoreState, tables_of}
use Rattle.json_gateway.specs.declared.outcome.Certified.{Certified}
use Rattle.json_gateway.specs.declared.outcome.Message.{Message}
use Rattle.json_gateway.specs.declared.outcome.Outcome.{Outcome}
use Rattle.json_gateway.specs.declared.outcome.Reply.{Reply}
use Rattle.json_gateway.specs.declared.outcome.Settled.{Settled}
use Rattle.json_gateway.specs.declared.outcome.Settled.TheVariants as settled
use Rattle.json_gateway.specs.Endings.{Ends, EndsAs}
use Rattle.json_gateway.specs.Outcomes.{is_accepted, response_of}
use Rattle.json_gateway.proofs.Keeps.{spent_rests}
use Rattle.json_gateway.specs.Runs.{certified_outcome, command_view, delivery_outcome, ending_view, expired_view, message_view}
use Rattle.event_book.specs.Asking.{Asking}
use Rattle.event_book.specs.Events.{Answers, Event, left_by}
use Rattle.event_book.specs.Publishing.{change_by}
use Rattle.event_book.proofs.Publishing.{refused_is_untold}
use Rattle.event_script.specs.Notes.{step_outcome}
use Rattle.engine_lock.specs.Fits.{MakesOn}

-- ---- what was done on the tables, behind all that readers were told of before

-- one operation
pub took : (fed f g : List Published) (op : Published) → g ≡ f ++ op ∷ [] → fed ++ g ≡ (fed ++ f) ++ op ∷ []
took fed f g op e = ap (λ l. fed ++ l) e ∙ sym (append_assoc fed f (op ∷ []))

-- none
still : (fed f g : List Published) → g ≡ f → fed ++ g ≡ (fed ++ f) ++ []
still fed f g e = ap (λ l. fed ++ l) e ∙ sym (append-nil (fed ++ f))

took_all : (fed ops f g : List Published) → Takes (λ f op g. g ≡ f ++ op ∷ []) ops f g → fed ++ g ≡ (fed ++ f) ++ ops
took_all fed [] f g e = still fed f g e
took_all fed (op ∷ []) f g e = took fed f g op e
took_all fed (op ∷ next ∷ ops) f g e = absurd e

-- ---- events of which readers are told nothing

pub makes_still : (ids : Ids) (e : Event) (o : WireOutcome) (old new : CoreState) (fed : List Published)
    → ((w : World) → StandsFor old.store w → Answers ids w e o) → ((w : World) → StandsFor old.store w → StandsFor new.store (left_by w e o))
    → ((w : World) → change_by w e o ≡ []) → tables_of new ≡ tables_of old → MakesOn ids e o old new fed fed
makes_still ids e o old new fed answers stands none kept = record {
  answers = answers;
  stands = stands;
  told = λ w h. sym (append-nil fed) ∙ ap (λ l. fed ++ l) (sym (none w));
  stored = λ w h. kept ∙ ap (fold absorb (tables_of old)) (sym (none w));
}

pub makes_moment : (ids : Ids) (now clock : ℕ) (old new : CoreState) (fed : List Published)
    → ((w : World) → StandsFor old.store w → StandsFor new.store (at_moment w now) × (clock ≡ (at_moment w now).clock))
    → tables_of new ≡ tables_of old → MakesOn ids (Event.moment now) (said (WireTold.clock clock)) old new fed fed
makes_moment ids now clock old new fed stands kept = makes_still ids (Event.moment now) (said (WireTold.clock clock)) old new fed
    (λ w h. ap (λ n. WireTold.clock n) (stands w h).1) (λ w h. (stands w h).0) (λ w. refl) kept

pub makes_delivery : (ids : Ids) (n : ℕ) (r : Result Message AllocError) (old new : CoreState) (fed : List Published)
    → IfOk r (λ m. (w : World) → StandsFor old.store w → message_view m ≡ (wire_step ids w (WireEvent.deliver n)).0)
    → OnOk r ((w : World) → StandsFor old.store w → StandsFor new.store (wire_step ids w (WireEvent.deliver n)).1)
    → OnErr r (new ≡ old) → tables_of new ≡ tables_of old
    → MakesOn ids (Event.delivery n) (delivery_outcome r) old new fed fed
makes_delivery ids n (Ok m) old new fed told stands same kept =
    makes_still ids (Event.delivery n) (delivery_outcome (Ok m)) old new fed told stands (λ w. refl) kept
makes_delivery ids n (Err e) old new fed told stands same kept =
    makes_still ids (Event.delivery n) memory old new fed (λ w h. refl) (λ w h. subst (λ (s : CoreState). StandsFor s.store w) (sym same) h)
    (λ w. refl) kept

pub makes_ending : (ids : Ids) (n : ℕ) (stood : Bool) (old new : CoreState) (fed : List Published)
    → ((w : World) → StandsFor old.store w → stood ≡ is_some (watch_at w.watches n))
    → ((w : World) → StandsFor old.store w → StandsFor new.store (record w { watches = without_watch n w.watches }))
    → tables_of new ≡ tables_of old → MakesOn ids (Event.ending n) (said (WireTold.closed stood)) old new fed fed
makes_ending ids n stood old new fed told stands kept = makes_still ids (Event.ending n) (said (WireTold.closed stood)) old new fed
    (λ w h. ap (λ b. WireTold.closed b) (told w h)) stands (λ w. refl) kept

pub makes_certificate : (ids : Ids) (r : Result Certified AllocError) (s : CoreState) (fed : List Published)
    → MakesOn ids Event.certificate (certified_outcome r) s s fed fed
makes_certificate ids (Ok shown) s fed = makes_still ids Event.certificate (certified_outcome (Ok shown)) s s fed (λ w h. tt) (λ w h. h) (λ w. refl) refl
makes_certificate ids (Err e) s fed = makes_still ids Event.certificate memory s s fed (λ w h. refl) (λ w h. h) (λ w. refl) refl

-- ---- a trimming step, whatever it tells

pub makes_trimming : (ids : Ids) (t : Trim) (told : WireTold) (old new : CoreState) (fed f g : List Published) → g ≡ f ++ Published.trim ∷ []
    → TrimsOnce old new t → MakesOn ids Event.trimming (said told) old new (fed ++ f) (fed ++ g)
makes_trimming ids t told old new fed f g e x = record {
  answers = λ w h. tt;
  stands = λ w h. (x.trims w h).stands;
  told = λ w h. took fed f g Published.trim e;
  stored = λ w h. ap tables_of x.left;
}

-- and whatever it tells instead
pub checked_trimming : (ids : Ids) (t : Trim) (told : WireTold) (old new : CoreState) (fed more : List Published)
    → MakesOn ids Event.trimming (said (trim_told (told_of t) None)) old new fed more → MakesOn ids Event.trimming (said told) old new fed more
checked_trimming ids t told old new fed more m = record { answers = λ w h. tt; stands = m.stands; told = m.told; stored = m.stored }

-- ---- a command

-- an answer that is no success is that of a refusal, which changes nothing
refused_untold : (ids : Ids) (w : World) (call : Call) (r : Reply) → response_of r ≡ response_to ids (perform w call).0 → (r.status == 200) ≡ false
    → change_of w call ≡ []
refused_untold ids w call r told bad = by (made_in w call) refl
  where
    by : (m : Made) → made_in w call ≡ m → change_of w call ≡ []
    by (Ok made) is =
        let fine : r.status ≡ 200 = ap (λ (x : Response). x.status) (told ∙ ap (λ m. response_to ids (answer_of m)) is) in
        let wrong : true ≡ false = ap (λ n. n == 200) (sym fine) ∙ bad in
        absurd (cc wrong)
    by (Err e) is = refused_is_untold w call e is

module _ (ids : Ids) (now : ℕ) (a : Asking) (old new : CoreState) (fed f g : List Published) where
  call : Call
  call = call_of a.command

  EndsSo : Settled → Option ℕ → Option ℕ → Type 0
  EndsSo s up watch = (w : World) → StandsFor old.store w
      → EndsAs s up watch old new w (response_to ids (perform w call).0) (perform w call).1 (λ l. IsChange w call l (made_in w call))

  answered : (s : Settled) (up watch : Option ℕ) → EndsSo s up watch → (w : World) → StandsFor old.store w
      → Answers ids w (Event.command now a) (ending_view s up watch)
  unfolding call EndsSo
  answered (settled.Reply r) up watch ends w h =
      let e = ends w h in λ i. WireTold.reply (e.0 i) (e.1 i) (e.2 i)
  answered settled.Memory up watch ends w h = refl
  answered (settled.Lost revision) up watch ends w h = (ends w h).0

  stood : (s : Settled) (up watch : Option ℕ) → EndsSo s up watch → (w : World) → StandsFor old.store w
      → StandsFor new.store (left_by w (Event.command now a) (ending_view s up watch))
  unfolding call EndsSo
  stood (settled.Reply r) up watch ends w h = (ends w h).3
  stood settled.Memory up watch ends w h = subst (λ (s : CoreState). StandsFor s.store w) (sym (ends w h)) h
  stood (settled.Lost revision) up watch ends w h = (ends w h).1

  -- what the feed took and what is kept, by whether the command was accepted, where this is its change
  Changes : Bool → World → Type 0
  Changes b w = (fed ++ g ≡ (fed ++ f) ++ cond b (change_of w call) []) × (tables_of new ≡ fold absorb (tables_of old) (cond b (change_of w call) []))

  changes : (b : Bool) (w : World) → StandsFor old.store w → (b ≡ false → new ≡ old)
      → (b ≡ true → IsToldChange (λ f op g. g ≡ f ++ op ∷ []) old.store call f g) → (b ≡ true → StoresChange old new call)
      → (b ≡ false → g ≡ f) → Changes b w
  unfolding call Changes
  changes true w h unchanged told stored untold = (took_all fed (change_of w call) f g (told refl w h), stored refl w h)
  changes false w h unchanged told stored untold = (still fed f g (untold refl), ap tables_of (unchanged refl))

  changed : (s : Settled) (up watch : Option ℕ) → EndsSo s up watch → (w : World) → StandsFor old.store w → Changes (is_accepted s) w
      → (fed ++ g ≡ (fed ++ f) ++ change_by w (Event.command now a) (ending_view s up watch))
      × (tables_of new ≡ fold absorb (tables_of old) (change_by w (Event.command now a) (ending_view s up watch)))
  unfolding call EndsSo Changes
  changed (settled.Reply r) up watch ends w h c = by (r.status == 200) refl c
    where
      by : (b : Bool) → (r.status == 200) ≡ b
          → (fed ++ g ≡ (fed ++ f) ++ cond b (change_of w call) []) × (tables_of new ≡ fold absorb (tables_of old) (cond b (change_of w call) []))
          → (fed ++ g ≡ (fed ++ f) ++ change_of w call) × (tables_of new ≡ fold absorb (tables_of old) (change_of w call))
      by true is c = c
      by false is c =
          let none : [] ≡ change_of w call = sym (refused_untold ids w call r (ends w h).0 is) in
          subst (λ l. (fed ++ g ≡ (fed ++ f) ++ l) × (tables_of new ≡ fold absorb (tables_of old) l)) none c
  changed settled.Memory up watch ends w h c = c
  changed (settled.Lost revision) up watch ends w h c = c

  makes_asked : (o : Outcome)
      → ((w : World) → StandsFor old.store w → Ends o old new w (response_to ids (perform w (call_of a.command)).0)
      (perform w (call_of a.command)).1 (λ l. IsChange w (call_of a.command) l (made_in w (call_of a.command))))
      → (is_accepted o.settled ≡ false → new ≡ old)
      → (is_accepted o.settled ≡ true → IsToldChange (λ f op g. g ≡ f ++ op ∷ []) old.store (call_of a.command) f g)
      → (is_accepted o.settled ≡ true → StoresChange old new (call_of a.command))
      → ((w : World) → StandsFor old.store w → is_accepted o.settled ≡ false → g ≡ f)
      → MakesOn ids (Event.command now a) (command_view o) old new (fed ++ f) (fed ++ g)
  unfolding call EndsSo Changes
  makes_asked o ends unchanged told stored untold = record {
    answers = answered o.settled o.raised o.watch ends;
    stands = stood o.settled o.raised o.watch ends;
    told = λ w h. (both w h).0;
    stored = λ w h. (both w h).1;
  }
    where
      both : (w : World) → StandsFor old.store w
          → (fed ++ g ≡ (fed ++ f) ++ change_by w (Event.command now a) (command_view o))
          × (tables_of new ≡ fold absorb (tables_of old) (change_by w (Event.command now a) (command_view o)))
      both w h = changed o.settled o.raised o.watch ends w h (changes (is_accepted o.settled) w h unchanged told stored (untold w h))

-- the same, of a command that is the one asked for
pub makes_command : (ids : Ids) (now : ℕ) (a : Asking) (x : Command) (old new : CoreState) (fed f g : List Published) (o : Outcome) → x ≡ a.command
    → ((w : World) → StandsFor old.store w → Ends o old new w (response_to ids (perform w (call_of x)).0)
    (perform w (call_of x)).1 (λ l. IsChange w (call_of x) l (made_in w (call_of x))))
    → (is_accepted o.settled ≡ false → new ≡ old)
    → (is_accepted o.settled ≡ true → IsToldChange (λ f op g. g ≡ f ++ op ∷ []) old.store (call_of x) f g)
    → (is_accepted o.settled ≡ true → StoresChange old new (call_of x))
    → ((w : World) → StandsFor old.store w → is_accepted o.settled ≡ false → g ≡ f)
    → MakesOn ids (Event.command now a) (command_view o) old new (fed ++ f) (fed ++ g)
makes_command ids now a x old new fed f g o is ends unchanged told stored untold =
    subst (λ (y : Command). MakesOn ids (Event.command now (record { command = y; request = a.request })) (command_view o) old new (fed ++ f) (fed ++ g)) is
    (makes_asked ids now (record { command = x; request = a.request }) old new fed f g o ends unchanged told stored untold)

-- ---- a step of expiry

nothing_between : (w : World) → change_between w w ≡ []
nothing_between w = change_added w w refl ∙ ap batch_of (drop_all (length (versions w)) (versions w) (omega arith))

spent_untold : (w : World) → (expire w).0 ≡ told.Expiry.spent → change_of_expiry w ≡ []
spent_untold w e = ap (change_between w) (spent_rests w e) ∙ nothing_between w

pub makes_expiry : (ids : Ids) (now : ℕ) (r : Result Expiry Refusal) (old new : CoreState) (fed f g : List Published)
    → IfOk r (λ e. Expires old new e) → OnOk r (IsToldExpiry (λ f op g. g ≡ f ++ op ∷ []) old.store f g) → OnOk r (StoresExpiry old new)
    → IfErr r (λ e. RefusesExpiry old new e) → OnErr r (g ≡ f)
    → MakesOn ids (Event.expiry now) (step_outcome r) old new (fed ++ f) (fed ++ g)
makes_expiry ids now (Ok e) old new fed f g done heard stored refused untold = record {
  answers = λ w h. ap (λ x. WireTold.expiry x) (sym (viewed e) ∙ (done.expired w h).tells);
  stands = λ w h. (done.expired w h).stands;
  told = λ w h. took_all fed (change_of_expiry w) f g (heard w h);
  stored = λ w h. stored w h;
}
  where
    viewed : (e : Expiry) → expiry_view e ≡ expired_view e
    viewed expiry.Nothing = refl
    viewed (expiry.Expired id revision raised) = refl
makes_expiry ids now (Err e) old new fed f g done heard stored refused untold = by (is_memory e) refused.refused
  where
    by : (b : Bool) → MatchBool b ⊤ ((e ≡ RevisionsSpent) × ((w : World) → StandsFor old.store w → (expire w).0 ≡ told.Expiry.spent))
        → MakesOn ids (Event.expiry now) (cond b memory (said (WireTold.expiry told.Expiry.spent))) old new (fed ++ f) (fed ++ g)
    by true r = record {
      answers = λ w h. refl;
      stands = λ w h. subst (λ (s : CoreState). StandsFor s.store w) (sym refused.kept) h;
      told = λ w h. still fed f g untold;
      stored = λ w h. ap tables_of refused.kept;
    }
    by false r = record {
      answers = λ w h. ap (λ x. WireTold.expiry x) (sym (r.1 w h));
      stands = λ w h. subst (StandsFor new.store) (sym (spent_rests w (r.1 w h))) (subst (λ (s : CoreState). StandsFor s.store w) (sym refused.kept) h);
      told = λ w h. still fed f g untold ∙ ap (λ l. (fed ++ f) ++ l) (sym (spent_untold w (r.1 w h)));
      stored = λ w h. ap tables_of refused.kept ∙ ap (fold absorb (tables_of old)) (sym (spent_untold w (r.1 w h)));
    }
