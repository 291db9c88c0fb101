-- By how much an event raises the revision, as its outcome tells it.
use Rattle.std.proofs.Common.{◌≡◌, ◌≤◌, ◌+◌, ◌==◌, ℕ, Bool, true, false, cond, List, [], ◌∷◌, length, Option, None, Result, Ok, Err, refl, sym, ◌∙◌, ap, arith}
use Rattle.std.specs.Prelude.{is_some}
use Rattle.kv_model.specs.declared.ids.Ids.{Ids}
use Rattle.kv_model.specs.declared.refusal.Refusal.{Refusal}
use Rattle.kv_model.specs.Commands.{call_of}
use Rattle.kv_model.specs.Calls.{Call}
use Rattle.kv_model.specs.Follows.Outcome.{lost, memory, said}
use Rattle.kv_model.specs.Step.{Made, made_in, world_of}
use Rattle.kv_model.specs.Told as told
use Rattle.kv_model.specs.Wire.{IsChange, Loss, WireOutcome, WireTold, raised}
use Rattle.kv_model.specs.World.{World, at_moment, opening}
use Rattle.store_laws.specs.Growth.{says_raised}
use Rattle.store_laws.proofs.RaiseLaws.{expiry_tells}
use Rattle.request_core.specs.declared.answer.Expiry.{Expiry}
use Rattle.request_core.specs.declared.answer.Expiry.TheVariants as expiry
use Rattle.request_core.specs.Answers.{is_memory}
use Rattle.json_gateway.specs.declared.outcome.Settled.{Settled}
use Rattle.json_gateway.specs.declared.outcome.Settled.TheVariants as settled
use Rattle.json_gateway.specs.declared.outcome.Outcome.{Outcome}
use Rattle.json_gateway.specs.Outcomes.{IsBare, is_accepted}
use Rattle.json_gateway.specs.Runs.{command_view, ending_view, expired_view}
use Rattle.event_book.specs.Asking.{Asking}
use Rattle.event_book.specs.Callers as list
use Rattle.event_book.specs.Events.{Answers, Entry, Event, after, entry, events_by}
use Rattle.event_book.specs.Raising.{raised_from, raises, rise_of}
use Rattle.event_book.proofs.Raising.{rise_certificate, rise_command, rise_delivery, rise_ending, rise_expiry, rise_memory, rise_moment, rise_trimming}
use Rattle.event_script.specs.Notes.{step_outcome}
use Rattle.engine_lock.specs.Entering.{raises_revision}

-- ---- commands

-- the revision that a reply tells
raised_told : WireTold → Option ℕ
raised_told (WireTold.reply r up watch) = up
raised_told _ = None

lost_raised : (w : World) (call : Call) (l : Loss) (made : Made) → IsChange w call l made → l.raised ≡ raised w (world_of w made)
lost_raised w call l (Ok made) h = ap (λ (x : Loss). x.raised) h.1
lost_raised w call l (Err e) h = absurd h

command_by : (ids : Ids) (w : World) (by about now : ℕ) (a : Asking) (s : Settled) (up watch : Option ℕ)
    → Answers ids (at_moment w now) (Event.command now a) (ending_view s up watch) → (is_accepted s ≡ false → (up ≡ None) × (watch ≡ None))
    → rise_of w (entry by about (Event.command now a) (ending_view s up watch)) ≡ cond (is_some up) 1 0
unfolding raised_told
command_by ids w by about now a (settled.Reply r) up watch h bare =
    rise_command w by about now a (ending_view (settled.Reply r) up watch) refl ∙ ap (λ u. cond (is_some u) 1 0) (sym (ap raised_told h))
command_by ids w by about now a settled.Memory up watch h bare =
    rise_memory w by about (Event.command now a) ∙ ap (λ u. cond (is_some u) 1 0) (sym (bare refl).0)
command_by ids w by about now a (settled.Lost revision) up watch h bare =
    rise_command w by about now a (ending_view (settled.Lost revision) up watch) refl
    ∙ ap (λ u. cond (is_some u) 1 0) (sym (lost_raised (at_moment w now) (call_of a.command) (record { revision = revision; raised = up; watch = watch }) (made_in (at_moment w now) (call_of a.command)) h))

pub command_rises : (ids : Ids) (w : World) (by about now : ℕ) (a : Asking) (o : Outcome)
    → Answers ids (at_moment w now) (Event.command now a) (command_view o) → IsBare o
    → rise_of w (entry by about (Event.command now a) (command_view o)) ≡ cond (is_some o.raised) 1 0
command_rises ids w by about now a o h bare = command_by ids w by about now a o.settled o.raised o.watch h bare

-- ---- expiry

expiry_told : WireTold → Bool
expiry_told (WireTold.expiry e) = says_raised e
expiry_told _ = false

pub expiry_rises : (ids : Ids) (w : World) (by about now : ℕ) (r : Result Expiry Refusal)
    → Answers ids (at_moment w now) (Event.expiry now) (step_outcome r)
    → rise_of w (entry by about (Event.expiry now) (step_outcome r)) ≡ cond (raises_revision r) 1 0
unfolding expiry_told
expiry_rises ids w by about now (Ok e) h =
    rise_expiry w by about now (step_outcome (Ok e)) refl
    ∙ ap (λ b. cond b 1 0) (sym (expiry_tells (at_moment w now)) ∙ sym (ap expiry_told h) ∙ says e)
  where
    says : (e : Expiry) → says_raised (expired_view e) ≡ raises_revision (Ok e)
    says expiry.Nothing = refl
    says (expiry.Expired id revision rose) = refl
expiry_rises ids w by about now (Err e) h = refused (is_memory e) h
  where
    spent : WireOutcome
    spent = said (WireTold.expiry told.Expiry.spent)

    refused : (b : Bool) → Answers ids (at_moment w now) (Event.expiry now) (cond b memory spent)
        → rise_of w (entry by about (Event.expiry now) (cond b memory spent)) ≡ 0
    refused true h = rise_memory w by about (Event.expiry now)
    refused false h = rise_expiry w by about now spent refl
        ∙ ap (λ b. cond b 1 0) (sym (expiry_tells (at_moment w now)) ∙ sym (ap expiry_told h))

-- ---- a client made at most as many changes as events

at_most : (b : Bool) (n : ℕ) → n ≡ cond b 1 0 → n ≤ 1
at_most true n e = omega (arith, e)
at_most false n e = omega (arith, e)

rise_most : (w : World) (by about : ℕ) (e : Event) (o : WireOutcome) → rise_of w (entry by about e o) ≤ 1
rise_most w by about (Event.moment now) o = omega (arith, rise_moment w by about now o)
rise_most w by about (Event.command now a) memory = omega (arith, rise_memory w by about (Event.command now a))
rise_most w by about (Event.command now a) (lost l) = at_most _ _ (rise_command w by about now a (lost l) refl)
rise_most w by about (Event.command now a) (said t) = at_most _ _ (rise_command w by about now a (said t) refl)
rise_most w by about (Event.expiry now) memory = omega (arith, rise_memory w by about (Event.expiry now))
rise_most w by about (Event.expiry now) (lost l) = at_most _ _ (rise_expiry w by about now (lost l) refl)
rise_most w by about (Event.expiry now) (said t) = at_most _ _ (rise_expiry w by about now (said t) refl)
rise_most w by about (Event.delivery n) o = omega (arith, rise_delivery w by about n o)
rise_most w by about (Event.ending n) o = omega (arith, rise_ending w by about n o)
rise_most w by about Event.trimming o = omega (arith, rise_trimming w by about o)
rise_most w by about Event.certificate o = omega (arith, rise_certificate w by about o)

raised_most : (n : ℕ) (w : World) (log : List Entry) → raised_from n w log ≤ length (events_by n log)
raised_most n w [] = omega arith
raised_most n w (e ∷ log) = by (e.by == n) (raised_most n (after w e) log)
  where
    by : (b : Bool) → raised_from n (after w e) log ≤ length (events_by n log)
        → cond b (rise_of w e) 0 + raised_from n (after w e) log ≤ length (cond b (e ∷ events_by n log) (events_by n log))
    by true h = omega (arith, h, rise_most w e.by e.about e.event e.outcome)
    by false h = omega (arith, h)

pub raises_most : (c : list.Caller) → raises c ≤ list.made_by c
raises_most c = raised_most c.number opening c.front
