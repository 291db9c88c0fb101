-- A step of expiry that was submitted is an event of a run, made at its moment.
use Rattle.std.proofs.Common.{◌≡◌, ℕ, Bool, true, false, cond, Ok, Err, sym, ap, subst}
use Rattle.kv_model.specs.declared.ids.Ids.{Ids}
use Rattle.kv_model.specs.declared.refusal.Refusal.{Refusal}
use Rattle.kv_model.specs.Follows.Outcome.{memory, said}
use Rattle.kv_model.specs.Told as told
use Rattle.kv_model.specs.Wire.{WireOutcome, WireTold}
use Rattle.kv_model.specs.Wire as events
use Rattle.kv_model.specs.World.{World}
use Rattle.request_core.specs.declared.answer.Expiry.{Expiry}
use Rattle.request_core.specs.Answers.{is_memory}
use Rattle.json_gateway.specs.declared.wire.Unexpired.{Unexpired}
use Rattle.json_gateway.specs.declared.wire.Unexpired.TheVariants as unexpired
use Rattle.json_gateway.specs.Runs.{expiry_outcome}
use Rattle.json_gateway.specs.Steps.{Steps}
use Rattle.json_gateway.proofs.Events.{expired_steps, unexpired_steps}
use Rattle.event_book.specs.Events.{Event}
use Rattle.event_script.specs.Notes.{step_outcome}
use Rattle.engine_lock.specs.Entering.{Makes, SubmitsExpiry, before}
use Rattle.engine_lock.specs.Locked.{Caller}

pub expiry_makes : (ids : Ids) (c later : Caller) (now : ℕ) (e : Expiry) → SubmitsExpiry ids c now (Ok e) later
    → Makes ids c (Event.expiry now) events.WireEvent.expire (expiry_outcome (Ok e)) later
expiry_makes ids c later now e s =
    let world : World = before ids c (Event.expiry now) (step_outcome (Ok e)) later s.enters in
    record {
      enters = s.enters;
      published = s.published;
      told = s.told;
      old = s.old;
      new = s.new;
      stood = s.stood;
      steps = expired_steps ids world e s.old s.new (s.makes.expired world s.stood);
    }

-- the outcome of one that is refused, in both forms
same_outcome : (e : Refusal) (why : Unexpired) → why ≡ cond (is_memory e) unexpired.Memory unexpired.RevisionsSpent
    → step_outcome (Err e) ≡ expiry_outcome (Err why)
same_outcome e why is = by (is_memory e) is
  where
    by : (b : Bool) → why ≡ cond b unexpired.Memory unexpired.RevisionsSpent
        → cond b memory (said (WireTold.expiry told.Expiry.spent)) ≡ expiry_outcome (Err why)
    by true is = ap (λ (x : Unexpired). expiry_outcome (Err x)) (sym is)
    by false is = ap (λ (x : Unexpired). expiry_outcome (Err x)) (sym is)

pub expiry_refused : (ids : Ids) (c later : Caller) (now : ℕ) (e : Refusal) (why : Unexpired) → SubmitsExpiry ids c now (Err e) later
    → why ≡ cond (is_memory e) unexpired.Memory unexpired.RevisionsSpent
    → Makes ids c (Event.expiry now) events.WireEvent.expire (expiry_outcome (Err why)) later
expiry_refused ids c later now e why s is =
    let world : World = before ids c (Event.expiry now) (step_outcome (Err e)) later s.enters in
    let same : step_outcome (Err e) ≡ expiry_outcome (Err why) = same_outcome e why is in
    subst (λ (o : WireOutcome). Makes ids c (Event.expiry now) events.WireEvent.expire o later) same (record {
      enters = s.enters;
      published = s.published;
      told = s.told;
      old = s.old;
      new = s.new;
      stood = s.stood;
      steps = subst (λ (o : WireOutcome). Steps ids world events.WireEvent.expire o s.old s.new) (sym same)
          (unexpired_steps ids world e why s.old s.new s.makes is s.stood);
    })
