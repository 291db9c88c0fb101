-- The script of a history is the lines of events that lead where the list leads.
use Rattle.std.proofs.Common.{◌≡◌, ◌<◌, ◌^◌, ◌==◌, ℕ, ℤ, All, arith, map, not, Bool, true, false, cond, List, [], ◌∷◌, ◌++◌, Option, None, Some}
use Rattle.std.proofs.Common.{Ok, Err, fold, refl, sym, ◌∙◌, ap, subst, append_assoc, ◌&&◌}
use Rattle.std.specs.Prelude.{MatchBool, is_ok, is_some, ⊤}
use Rattle.std.specs.List.{concat}
use Rattle.std.proofs.lemmas.Bool.{eqb-true}
use Rattle.std.proofs.lemmas.List.{append-nil}
use Rattle.std.proofs.lemmas.List.Elements.{All-append, All-cons, All-head, All-nil, All-tail}
use Rattle.std.proofs.lemmas.List.Sums.{fold-append}
use Rattle.kv_model.specs.declared.ids.Ids.{Ids}
use Rattle.kv_model.specs.Answers.{message_text}
use Rattle.kv_model.specs.Calls.{Call}
use Rattle.kv_model.specs.Commands.{call_of}
use Rattle.kv_model.specs.Follows.{Outcome}
use Rattle.kv_model.specs.Leases.{Lease, due}
use Rattle.kv_model.specs.Step.{Made, expire, expire_at, expiry_of, perform, revoke_in}
use Rattle.kv_model.specs.Watches.{Delivery, after_delivery, deliver}
use Rattle.kv_model.specs.Wire.{WireEvent, WireOutcome, WireTold, client_id, post_call, tell_message, wire_step}
use Rattle.kv_model.specs.World.{Watch, World, at_moment, opening, revision, watch_at, without_watch}
use Rattle.recording.specs.Lines.{Written, all_of, blank, handed, line_of, lines_of}
use Rattle.event_book.specs.Asking.{Asks, IsAskedBy}
use Rattle.event_book.specs.Events.{Answers, Entry, Event, FollowsFrom, IsAskedFor, IsHistory, after, clocked, left_by}
use Rattle.event_script.specs.Leading.{HasLine, LeadsBy, ScriptLeads, WrittenLeads, run_by}
use Rattle.event_script.specs.Scripts.{AllAsked, AllFit, Fits, HasRequest, IsCut, delivery_line, ending_line, expiry_line, handed_with}
use Rattle.event_script.specs.Scripts.{noted, noted_by, noted_if, noted_trimming, write, written_by}
use Rattle.event_script.proofs.Clocks.{command_clock, delivery_clock, expiry_clock, moments, same_clock, twice}

-- ---- texts

abbrev script : List WireEvent → List ℕ
script es = concat (map line_of es)

scripts : (es fs : List WireEvent) → script (es ++ fs) ≡ script es ++ script fs
scripts [] fs = refl
scripts (e ∷ es) fs = ap (λ t. line_of e ++ t) (scripts es fs) ∙ sym (append_assoc (line_of e) (script es) (script fs))

-- the events of the lines that are written for one
abbrev with_moment : Bool → ℕ → WireEvent → List WireEvent
with_moment b clock e = cond b (e ∷ []) (WireEvent.moment clock ∷ e ∷ [])

lined : (b : Bool) (clock : ℕ) (e : WireEvent) → clock < 2 ^ 64 → HasLine e → All HasLine (with_moment b clock e)
lined true clock e c h = All-cons HasLine e [] h (All-nil HasLine)
lined false clock e c h = All-cons HasLine (WireEvent.moment clock) (e ∷ []) c (All-cons HasLine e [] h (All-nil HasLine))

lines_are : (b : Bool) (clock : ℕ) (e : WireEvent) → cond b [] (line_of (WireEvent.moment clock)) ++ line_of e ≡ script (with_moment b clock e)
lines_are true clock e = sym (append-nil (line_of e))
lines_are false clock e = ap (λ t. line_of (WireEvent.moment clock) ++ t) (sym (append-nil (line_of e)))

-- ---- worlds

-- a run that goes on
run_on : (ids : Ids) (es fs : List WireEvent) → run_by ids (es ++ fs) ≡ fold (λ w e. (wire_step ids w e).1) (run_by ids es) fs
run_on ids es fs = fold-append (λ w e. (wire_step ids w e).1) opening es fs

-- where the last line of the clock tells the clock of a world, the event is made at the moment that was handed in
at_clock : (ids : Ids) (b : Bool) (w : World) (told clock : ℕ) (e : WireEvent) → (told == clock) ≡ b → at_moment w told ≡ w
    → fold (λ u f. (wire_step ids u f).1) w (with_moment b clock e) ≡ (wire_step ids (at_moment w clock) e).1
at_clock ids true w told clock e is at = ap (λ u. (wire_step ids u e).1) (sym at ∙ ap (at_moment w) (eqb-true told clock is))
at_clock ids false w told clock e is at = refl

-- the text is the lines of these events; at the moment that was handed in last they lead to the world, and the last line of
-- the clock tells their clock
record Led (l : Written) (w : World) : Type 0 where
  pub events : List WireEvent
  pub each : All HasLine events
  pub lines : l.text ≡ script events
  pub clock : l.clock < 2 ^ 64
  pub leads : (ids : Ids) → at_moment (run_by ids events) l.clock ≡ w
  pub told : (ids : Ids) → at_moment (run_by ids events) l.told ≡ run_by ids events

-- ---- one line more

led_line : (l : Written) (w u : World) (e : WireEvent) → Led l w → HasLine e → ((ids : Ids) → (wire_step ids w e).1 ≡ u)
    → u.clock ≡ w.clock → Led (noted l e) u
led_line l w u e d line step clock =
    let some : List WireEvent = with_moment (l.told == l.clock) l.clock e in
    let comes : (ids : Ids) → run_by ids (d.events ++ some) ≡ u = λ ids. run_on ids d.events some
    ∙ at_clock ids (l.told == l.clock) (run_by ids d.events) l.told l.clock e refl (d.told ids)
    ∙ ap (λ v. (wire_step ids v e).1) (d.leads ids) ∙ step ids in
    let stays : (ids : Ids) → at_moment u l.clock ≡ u = λ ids. same_clock u w l.clock clock
    (subst (λ v. at_moment v l.clock ≡ v) (d.leads ids) (twice (run_by ids d.events) l.clock)) in
    record {
      events = d.events ++ some;
      each = All-append HasLine d.events some d.each (lined (l.told == l.clock) l.clock e d.clock line);
      lines = ap (λ t. t ++ lines_of l.told l.clock e) d.lines ∙ ap (λ t. script d.events ++ t) (lines_are (l.told == l.clock) l.clock e)
          ∙ sym (scripts d.events some);
      clock = d.clock;
      leads = λ ids. ap (λ v. at_moment v l.clock) (comes ids) ∙ stays ids;
      told = λ ids. subst (λ v. at_moment v l.clock ≡ v) (sym (comes ids)) (stays ids);
    }

led_handed : (l : Written) (w : World) (now : ℕ) → Led l w → now < 2 ^ 64 → Led (handed l now) (at_moment w now)
led_handed l w now d fits = record {
  events = d.events;
  each = d.each;
  lines = d.lines;
  clock = omega (arith, d.clock, fits);
  leads = λ ids. sym (moments (run_by ids d.events) l.clock now) ∙ ap (λ u. at_moment u now) (d.leads ids);
  told = d.told;
}

-- the mark of trimming is no part of it
led_marked : (b : Bool) (l : Written) (w : World) → Led l w → Led (record l { is_trimmed = b }) w
led_marked b l w d = record {
  events = d.events;
  each = d.each;
  lines = d.lines;
  clock = d.clock;
  leads = d.leads;
  told = d.told;
}

-- ---- a command

command_line : (l : Written) (w : World) (e : WireEvent) (call : Call) → Asks e call → Led l w → Led (noted l e) (perform w call).1
command_line l w (WireEvent.post path body) call asks d = led_line l w (perform w call).1 (WireEvent.post path body) d (ap is_ok asks)
    (λ ids. ap (λ r. (post_call ids w r).1) asks) (command_clock w call)
command_line l w (WireEvent.moment n) call asks d = absurd asks
command_line l w (WireEvent.deliver n) call asks d = absurd asks
command_line l w (WireEvent.close n) call asks d = absurd asks
command_line l w WireEvent.expire call asks d = absurd asks
command_line l w WireEvent.trim call asks d = absurd asks
command_line l w WireEvent.certify call asks d = absurd asks

requested : (l : Written) (w : World) (request : Option WireEvent) (call : Call) → IsAskedBy request call → is_some request ≡ true → Led l w
    → Led (noted_if l request) (perform w call).1
requested l w None call asked has d = absurd (cc has)
requested l w (Some e) call asked has d = command_line l w e call asked d

-- ---- a step of expiry

expiry_made : (l : Written) (w : World) (id : ℤ) (made : Made) → ((ids : Ids) → (wire_step ids w WireEvent.expire).1 ≡ (expiry_of id w made).1)
    → (expiry_of id w made).1.clock ≡ w.clock → Led l w
    → Led (noted_if l (expiry_line (WireTold.expiry (expiry_of id w made).0))) (expiry_of id w made).1
expiry_made l w id (Ok made) step clock d = led_line l w made.1 WireEvent.expire d tt step clock
expiry_made l w id (Err e) step clock d = d

expiry_at : (l : Written) (w : World) (x : Option Lease) → ((ids : Ids) → (wire_step ids w WireEvent.expire).1 ≡ (expire_at w x).1)
    → (expire_at w x).1.clock ≡ w.clock → Led l w
    → Led (noted_if l (expiry_line (WireTold.expiry (expire_at w x).0))) (expire_at w x).1
expiry_at l w None step clock d = d
expiry_at l w (Some x) step clock d = expiry_made l w x.id (revoke_in w x.id) step clock d

expired : (l : Written) (w : World) (t : WireTold) → t ≡ WireTold.expiry (expire w).0 → Led l w → Led (noted_if l (expiry_line t)) (expire w).1
expired l w t is d = subst (λ x. Led (noted_if l (expiry_line x)) (expire w).1) (sym is)
    (expiry_at l w (due w.clock w.leases) (λ ids. refl) (expiry_clock w) d)

-- ---- a message

delivered_by : (ids : Ids) (l : Written) (w : World) (n : ℕ) (stands : Bool) (x : Delivery) → n < 2 ^ 64
    → ((other : Ids) → (wire_step other w (WireEvent.deliver n)).1 ≡ after_delivery w n x) → (after_delivery w n x).clock ≡ w.clock → Led l w
    → Led (noted_if l (delivery_line n (tell_message stands (message_text ids (revision w) (client_id (watch_at w.watches n)) x)))) (after_delivery w n x)
delivered_by ids l w n true Delivery.no_watch fits step clock d = d
delivered_by ids l w n false Delivery.no_watch fits step clock d = d
delivered_by ids l w n true Delivery.nothing fits step clock d = d
delivered_by ids l w n false Delivery.nothing fits step clock d = d
delivered_by ids l w n stands (Delivery.events es) fits step clock d =
    led_line l w (after_delivery w n (Delivery.events es)) (WireEvent.deliver n) d fits step clock
delivered_by ids l w n stands (Delivery.cancelled c) fits step clock d =
    led_line l w (after_delivery w n (Delivery.cancelled c)) (WireEvent.deliver n) d fits step clock

delivered : (ids : Ids) (l : Written) (w : World) (n : ℕ) (t : WireTold) → n < 2 ^ 64 → t ≡ (wire_step ids w (WireEvent.deliver n)).0 → Led l w
    → Led (noted_if l (delivery_line n t)) (deliver w n).1
delivered ids l w n t fits is d = subst (λ x. Led (noted_if l (delivery_line n x)) (deliver w n).1) (sym is)
    (delivered_by ids l w n (is_some (watch_at w.watches n)) (deliver w n).0 fits (λ other. refl) (delivery_clock w n) d)

-- ---- the end of a watch

unwatched : (n : ℕ) (ws : List Watch) → is_some (watch_at ws n) ≡ false → without_watch n ws ≡ ws
unwatched n [] h = refl
unwatched n (w ∷ ws) h = by (w.number == n) h (unwatched n ws)
  where
    by : (b : Bool) → is_some (cond b (Some w) (watch_at ws n)) ≡ false → (is_some (watch_at ws n) ≡ false → without_watch n ws ≡ ws)
        → cond (not b) (w ∷ without_watch n ws) (without_watch n ws) ≡ w ∷ ws
    by true bad go = absurd (cc bad)
    by false none go = ap (λ xs. w ∷ xs) (go none)

ended_by : (l : Written) (w : World) (n : ℕ) (stood : Bool) → n < 2 ^ 64 → is_some (watch_at w.watches n) ≡ stood → Led l w
    → Led (noted_if l (ending_line n (WireTold.closed stood))) (record w { watches = without_watch n w.watches })
ended_by l w n true fits is d = led_line l w (record w { watches = without_watch n w.watches }) (WireEvent.close n) d fits (λ ids. refl) refl
ended_by l w n false fits is d = subst (λ ws. Led l (record w { watches = ws })) (sym (unwatched n w.watches is)) d

ended : (l : Written) (w : World) (n : ℕ) (t : WireTold) → n < 2 ^ 64 → t ≡ WireTold.closed (is_some (watch_at w.watches n)) → Led l w
    → Led (noted_if l (ending_line n t)) (record w { watches = without_watch n w.watches })
ended l w n t fits is d = subst (λ x. Led (noted_if l (ending_line n x)) (record w { watches = without_watch n w.watches })) (sym is)
    (ended_by l w n (is_some (watch_at w.watches n)) fits refl d)

-- ---- a trimming step

trim_by : (b done : Bool) (l : Written) (w : World) → Led l w → Led (cond b l (record (noted l WireEvent.trim) { is_trimmed = done })) w
trim_by true done l w d = d
trim_by false done l w d = led_marked done (noted l WireEvent.trim) w (led_line l w w WireEvent.trim d tt (λ ids. refl) refl)

trimmed : (l : Written) (w : World) (t : WireTold) → Led l w → Led (noted_trimming l t) w
trimmed l w (WireTold.clock n) d = d
trimmed l w (WireTold.reply r up watch) d = d
trimmed l w WireTold.no_watch d = d
trimmed l w WireTold.nothing d = d
trimmed l w (WireTold.message text) d = d
trimmed l w (WireTold.closed stood) d = d
trimmed l w (WireTold.expiry e) d = d
trimmed l w (WireTold.removed p) d = trim_by false false l w d
trimmed l w (WireTold.kept p) d = trim_by false false l w d
trimmed l w (WireTold.done n certificate) d = trim_by (true && l.is_trimmed) true l w d
trimmed l w (WireTold.certified dump certificate) d = d
trimmed l w WireTold.untold d = d

-- ---- an event

step : (ids : Ids) (l : Written) (w : World) (e : Event) (o : WireOutcome) → Led l w → Answers ids (clocked w e) e o → IsAskedFor e
    → HasRequest e o → Fits e → Led (noted_by (handed_with l e) e o) (left_by (clocked w e) e o)
step ids l w (Event.moment now) Outcome.memory d a asked has fits = absurd (cc a)
step ids l w (Event.moment now) (Outcome.lost x) d a asked has fits = absurd a
step ids l w (Event.moment now) (Outcome.said t) d a asked has fits = led_handed l w now d fits
step ids l w (Event.command now asking) Outcome.memory d a asked has fits = led_handed l w now d fits
step ids l w (Event.command now asking) (Outcome.lost x) d a asked has fits =
    requested (handed l now) (at_moment w now) asking.request (call_of asking.command) asked has (led_handed l w now d fits)
step ids l w (Event.command now asking) (Outcome.said t) d a asked has fits =
    requested (handed l now) (at_moment w now) asking.request (call_of asking.command) asked has (led_handed l w now d fits)
step ids l w (Event.expiry now) Outcome.memory d a asked has fits = led_handed l w now d fits
step ids l w (Event.expiry now) (Outcome.lost x) d a asked has fits = absurd a
step ids l w (Event.expiry now) (Outcome.said t) d a asked has fits = expired (handed l now) (at_moment w now) t a (led_handed l w now d fits)
step ids l w (Event.delivery n) Outcome.memory d a asked has fits = d
step ids l w (Event.delivery n) (Outcome.lost x) d a asked has fits = absurd a
step ids l w (Event.delivery n) (Outcome.said t) d a asked has fits = delivered ids l w n t fits a d
step ids l w (Event.ending n) Outcome.memory d a asked has fits = absurd (cc a)
step ids l w (Event.ending n) (Outcome.lost x) d a asked has fits = absurd a
step ids l w (Event.ending n) (Outcome.said t) d a asked has fits = ended l w n t fits a d
step ids l w Event.trimming Outcome.memory d a asked has fits = absurd (cc a)
step ids l w Event.trimming (Outcome.lost x) d a asked has fits = absurd a
step ids l w Event.trimming (Outcome.said t) d a asked has fits = trimmed l w t d
step ids l w Event.certificate Outcome.memory d a asked has fits = d
step ids l w Event.certificate (Outcome.lost x) d a asked has fits = absurd a
step ids l w Event.certificate (Outcome.said t) d a asked has fits = d

-- ---- all of them

led_by : (ids : Ids) (l : Written) (w : World) (log : List Entry) → Led l w → FollowsFrom ids w log → AllAsked log → AllFit log
    → Led (fold write l log) (fold after w log)
led_by ids l w [] d h asked fit = d
led_by ids l w (e ∷ log) d h asked fit = led_by ids (write l e) (after w e) log
    (step ids l w e.event e.outcome d h.0 h.1 (All-head (λ (x : Entry). HasRequest x.event x.outcome) e log asked) (All-head (λ (x : Entry). Fits x.event) e log fit))
    h.2 (All-tail (λ (x : Entry). HasRequest x.event x.outcome) e log asked) (All-tail (λ (x : Entry). Fits x.event) e log fit)

start : Led (blank false) opening
start = record {
  events = [];
  each = All-nil HasLine;
  lines = refl;
  clock = omega arith;
  leads = λ ids. refl;
  told = λ ids. refl;
}

pub script_leads : ScriptLeads
script_leads ids log h asked fit = let d = led_by ids (blank false) opening log start h asked fit in record {
  events = d.events;
  each = d.each;
  lines = d.lines;
  leads = d.leads;
}

-- ---- what was written

front_follows : (ids : Ids) (w : World) (xs ys : List Entry) → FollowsFrom ids w (xs ++ ys) → FollowsFrom ids w xs
front_follows ids w [] ys h = tt
front_follows ids w (x ∷ xs) ys h = (h.0, h.1, front_follows ids (after w x) xs ys h.2)

front_fits : (xs ys : List Entry) → AllFit (xs ++ ys) → AllFit xs
front_fits [] ys fit = All-nil (λ (x : Entry). Fits x.event)
front_fits (x ∷ xs) ys fit = All-cons (λ (y : Entry). Fits y.event) x xs (All-head (λ (y : Entry). Fits y.event) x (xs ++ ys) fit)
    (front_fits xs ys (All-tail (λ (y : Entry). Fits y.event) x (xs ++ ys) fit))

leads_by : (gone : Bool) (ids : Ids) (l : Written) (log : List Entry) → l.is_lost ≡ gone
    → MatchBool gone (IsCut l log) ((record l { taken = []; text = all_of l } ≡ written_by log) × AllAsked log)
    → IsHistory ids log → AllFit log → LeadsBy l log
leads_by true ids l log is w h fit = record {
  front = w.front;
  begins = w.begins;
  lines = w.lines;
  leads = script_leads ids w.front (front_follows ids opening w.front w.begins.0 (subst (IsHistory ids) (sym w.begins.1) h)) w.asked
      (front_fits w.front w.begins.0 (subst AllFit (sym w.begins.1) fit));
  whole = subst (λ b. MatchBool b ⊤ ((w.front ≡ log) × (l.clock ≡ (written_by log).clock))) (sym is) tt;
}
leads_by false ids l log is w h fit = record {
  front = log;
  begins = ([], append-nil log);
  lines = ap (λ (x : Written). x.text) w.0;
  leads = script_leads ids log h w.1 fit;
  whole = subst (λ b. MatchBool b ⊤ ((log ≡ log) × (l.clock ≡ (written_by log).clock))) (sym is) (refl, ap (λ (x : Written). x.clock) w.0);
}

pub written_leads : WrittenLeads
written_leads ids l t log w h = leads_by l.is_lost ids l log refl w.script h w.fit
