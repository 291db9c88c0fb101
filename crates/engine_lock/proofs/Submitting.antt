-- What a holding says, from its event and from what the client was told then.
use Rattle.std.specs.Prelude.{MatchResult}
use Rattle.std.proofs.Common.{◌≡◌, ℕ, Bool, true, false, List, [], ◌∷◌, ◌++◌, None, Result, Ok, Err, refl, sym, ◌∙◌, ap, subst}
use Rattle.kv_model.specs.declared.ids.Ids.{Ids}
use Rattle.kv_model.specs.declared.refusal.Refusal.{Refusal}
use Rattle.kv_model.specs.Commands.{call_of}
use Rattle.kv_model.specs.Follows.Outcome.{said}
use Rattle.kv_model.specs.Wire.{WireEvent, WireOutcome, WireTold, is_physical_call, trim_told}
use Rattle.kv_model.specs.World.{World, at_moment, revision}
use Rattle.store_laws.specs.Stands.{StandsFor}
use Rattle.trim_core.specs.declared.trimmer.Trim.{Trim}
use Rattle.trim_core.specs.Told.{told_of}
use Rattle.request_core.specs.declared.answer.Expiry.{Expiry}
use Rattle.request_core.specs.Commands.{TrimsOnce}
use Rattle.request_core.specs.State.{CoreState}
use Rattle.json_gateway.specs.declared.outcome.Outcome.{Outcome}
use Rattle.json_gateway.specs.Outcomes.{IsBare, is_accepted}
use Rattle.json_gateway.specs.declared.outcome.Trimmed.{Trimmed}
use Rattle.json_gateway.specs.Runs.{command_view, trimmed_view}
use Rattle.json_gateway.specs.Steps.{Steps}
use Rattle.event_book.specs.Asking.{Asking}
use Rattle.event_book.specs.Callers.{Adds}
use Rattle.event_book.specs.Events.{Entry, Event, clocked, entry, led_to}
use Rattle.event_script.specs.Notes.{step_outcome}
use Rattle.engine_lock.specs.Entering.{CatchesUp, Enters, ExpiresUntold, IsTold, Makes, MakesExpiry, MayTrim, ShowsTo, StaysOut, Submits, SubmitsExpiry, TrimsFor, before}
use Rattle.engine_lock.specs.declared.engine.Submitted.{Submitted}
use Rattle.engine_lock.specs.Fits.{StepsIn}
use Rattle.engine_lock.specs.Locked.{Caller, left}
use Rattle.engine_lock.proofs.Entered.{enters, enters_told, in_world, told_nothing, told_since}

-- an event that this client entered, in no reading, behind this list
pub record Noted (ids : Ids) (c : Caller) (e : Event) (o : WireOutcome) (later : Caller) (log : List Entry) : Type 0 where
  pub out : c.reader.inside ≡ false
  pub adds : Adds ids c.holder c.about e o later.holder
  pub same : later ≡ record c { holder = later.holder }
  pub front : later.holder.front ≡ log ++ entry c.holder.number c.about e o ∷ []

pub noted : (ids : Ids) (c : Caller) (e : Event) (o : WireOutcome) (later : Caller) (log seen : List Entry) → c.reader.inside ≡ false
    → Adds ids c.holder c.about e o later.holder → later ≡ record c { holder = later.holder } → later.holder.front ≡ seen
    → seen ≡ log ++ entry c.holder.number c.about e o ∷ [] → Noted ids c e o later log
noted ids c e o later log seen out adds same front grew = record { out = out; adds = adds; same = same; front = front ∙ grew }

module _ (ids : Ids) (c : Caller) (e : Event) (o : WireOutcome) (later : Caller) (log : List Entry) (n : Noted ids c e o later log) where
  pub its_event : Enters ids c e o later
  its_event = enters ids c e o later n.out n.adds n.same

  pub in_its_world : (P : World → Type 0) → P (clocked (led_to log) e) → P (before ids c e o later its_event)
  in_its_world P p = in_world P ids c e o later its_event log n.front p

  pub quietly : IsTold false c later
  quietly = told_nothing c later n.same

-- and then the client was told of it for its reads, or not
pub record Tells (ids : Ids) (c : Caller) (e : Event) (o : WireOutcome) (m d : Caller) (b : Bool) : Type 0 where
  pub out : m.reader.inside ≡ false
  pub same : d ≡ record m { reader = d.reader }
  pub stays : StaysOut m d
  pub told : IsTold b m d

pub tells : (ids : Ids) (c : Caller) (e : Event) (o : WireOutcome) (m d : Caller) (b : Bool) → m.reader.inside ≡ false
    → d ≡ record m { reader = d.reader } → StaysOut m d → IsTold b m d → Tells ids c e o m d b
tells ids c e o m d b out same stays told = record { out = out; same = same; stays = stays; told = told }

module _ (ids : Ids) (c : Caller) (e : Event) (o : WireOutcome) (m d : Caller) (b : Bool) (t : Tells ids c e o m d b) (x : Enters ids c e o m) where
  pub then : Enters ids c e o d
  then = enters_told ids c e o m d t.out x t.same t.stays

  -- the world that it was made in is the same
  pub still_in : (P : World → Type 0) → P (before ids c e o m x) → P (before ids c e o d then)
  still_in P p = in_world P ids c e o d then (c.holder.front ++ x.adds.between)
      (ap (λ (y : Caller). y.holder.front) t.same ∙ x.adds.grows) p

-- ---- commands

pub submits_made : (ids : Ids) (c later : Caller) (now : ℕ) (a : Asking) (o : Outcome) (log : List Entry)
    → Noted ids c (Event.command now a) (command_view o) later log → IsBare o → (is_accepted o.settled ≡ false → o.waits ≡ false)
    → (is_accepted o.settled ≡ true → o.waits ≡ is_physical_call (at_moment (led_to log) now) (Ok (call_of a.command)))
    → Submits ids c now a (record { outcome = o; published = false; revision = revision (led_to later.holder.front) }) later
submits_made ids c later now a o log n bare ready waits = record {
  enters = its_event ids c (Event.command now a) (command_view o) later log n;
  told = quietly ids c (Event.command now a) (command_view o) later log n;
  revision = refl;
  bare = bare;
  ready = ready;
  waits = λ fine. in_its_world ids c (Event.command now a) (command_view o) later log n (λ w. o.waits ≡ is_physical_call w (Ok (call_of a.command))) (waits fine);
}

pub submits_told : (ids : Ids) (c m d : Caller) (now : ℕ) (a : Asking) (o : Outcome) (b : Bool) (q r : ℕ)
    → Tells ids c (Event.command now a) (command_view o) m d b
    → Submits ids c now a (record { outcome = o; published = false; revision = q }) m → r ≡ revision (led_to m.holder.front)
    → Submits ids c now a (record { outcome = o; published = b; revision = r }) d
submits_told ids c m d now a o b q r t s is = record {
  enters = then ids c (Event.command now a) (command_view o) m d b t s.enters;
  told = told_since b c m d s.told t.told;
  revision = is ∙ sym (ap (λ (y : Caller). revision (led_to y.holder.front)) t.same);
  bare = s.bare;
  ready = s.ready;
  waits = λ fine. still_in ids c (Event.command now a) (command_view o) m d b t s.enters
      (λ w. o.waits ≡ is_physical_call w (Ok (call_of a.command))) (s.waits fine);
}

-- ---- expiry

pub expires_made : (ids : Ids) (c later : Caller) (now : ℕ) (r : Result Expiry Refusal) (log : List Entry) (old new : CoreState)
    → Noted ids c (Event.expiry now) (step_outcome r) later log → StandsFor old.store (at_moment (led_to log) now) → MakesExpiry old new r
    → ExpiresUntold ids c now r later
expires_made ids c later now r log old new n stood makes = (
  record {
    enters = its_event ids c (Event.expiry now) (step_outcome r) later log n;
    published = false;
    told = quietly ids c (Event.expiry now) (step_outcome r) later log n;
    old = old;
    new = new;
    stood = in_its_world ids c (Event.expiry now) (step_outcome r) later log n (StandsFor old.store) stood;
    makes = makes;
  },
  refl,
)

-- ---- a step of expiry of which the client was told nothing for its reads yet

pub expires_told : (ids : Ids) (c m d : Caller) (now : ℕ) (r : Result Expiry Refusal) (b : Bool)
    → Tells ids c (Event.expiry now) (step_outcome r) m d b → ExpiresUntold ids c now r m → SubmitsExpiry ids c now r d
expires_told ids c m d now r b t (s, none) = record {
  enters = then ids c (Event.expiry now) (step_outcome r) m d b t s.enters;
  published = b;
  told = told_since b c m d (subst (λ p. IsTold p c m) none s.told) t.told;
  old = s.old;
  new = s.new;
  stood = still_in ids c (Event.expiry now) (step_outcome r) m d b t s.enters (StandsFor s.old.store) s.stood;
  makes = s.makes;
}

-- ---- events of a run

pub makes_noted : (ids : Ids) (c later : Caller) (e : Event) (event : WireEvent) (o : WireOutcome) (log : List Entry) (old new : CoreState)
    → Noted ids c e o later log → StandsFor old.store (clocked (led_to log) e) → StepsIn ids event o old new → Makes ids c e event o later
makes_noted ids c later e event o log old new n stood steps = record {
  enters = its_event ids c e o later log n;
  published = false;
  told = quietly ids c e o later log n;
  old = old;
  new = new;
  stood = in_its_world ids c e o later log n (StandsFor old.store) stood;
  steps = in_its_world ids c e o later log n (λ w. Steps ids w event o old new) (steps (clocked (led_to log) e) stood);
}

pub catches_up : (ids : Ids) (c m d : Caller) (now clock : ℕ) (b : Bool) → Tells ids c (Event.moment now) (said (WireTold.clock clock)) m d b
    → Makes ids c (Event.moment now) (WireEvent.moment now) (said (WireTold.clock clock)) m → IsTold false c m → CatchesUp ids c now b d
catches_up ids c m d now clock b t s quiet = record {
  clock = clock;
  enters = then ids c (Event.moment now) (said (WireTold.clock clock)) m d b t s.enters;
  told = told_since b c m d quiet t.told;
}

-- ---- trimming

pub trims_noted : (ids : Ids) (c later : Caller) (t : Trim) (log : List Entry) (old new : CoreState)
    → Noted ids c Event.trimming (said (trim_told (told_of t) None)) later log → StandsFor old.store (led_to log) → TrimsOnce old new t → TrimsFor ids c t later
trims_noted ids c later t log old new n stood trims = record {
  enters = its_event ids c Event.trimming (said (trim_told (told_of t) None)) later log n;
  told = quietly ids c Event.trimming (said (trim_told (told_of t) None)) later log n;
  old = old;
  new = new;
  stood = in_its_world ids c Event.trimming (said (trim_told (told_of t) None)) later log n (StandsFor old.store) stood;
  trims = trims;
}

-- ---- a client that left its reading before the call

module _ (ids : Ids) (c later : Caller) where
  pub left_submits : (out : Caller) (now : ℕ) (a : Asking) (s : Submitted) → out ≡ left c → Submits ids out now a s later → Submits ids c now a s later
  left_submits out now a s is h = by (subst (λ (y : Caller). Submits ids y now a s later) is h)
    where
      by : Submits ids (left c) now a s later → Submits ids c now a s later
      by h = record {
        enters = record { adds = h.enters.adds; same = h.enters.same };
        told = h.told;
        revision = h.revision;
        bare = h.bare;
        ready = h.ready;
        waits = h.waits;
      }

  pub left_expires : (out : Caller) (now : ℕ) (r : Result Expiry Refusal) → out ≡ left c → SubmitsExpiry ids out now r later → SubmitsExpiry ids c now r later
  left_expires out now r is h = by (subst (λ (y : Caller). SubmitsExpiry ids y now r later) is h)
    where
      by : SubmitsExpiry ids (left c) now r later → SubmitsExpiry ids c now r later
      by h = record {
        enters = record { adds = h.enters.adds; same = h.enters.same };
        published = h.published;
        told = h.told;
        old = h.old;
        new = h.new;
        stood = h.stood;
        makes = h.makes;
      }

  pub left_makes : (out : Caller) (e : Event) (event : WireEvent) (o : WireOutcome) → out ≡ left c → Makes ids out e event o later → Makes ids c e event o later
  left_makes out e event o is h = by (subst (λ (y : Caller). Makes ids y e event o later) is h)
    where
      by : Makes ids (left c) e event o later → Makes ids c e event o later
      by h = record {
        enters = record { adds = h.enters.adds; same = h.enters.same };
        published = h.published;
        told = h.told;
        old = h.old;
        new = h.new;
        stood = h.stood;
        steps = h.steps;
      }

  left_trims : (t : Trim) → TrimsFor ids (left c) t later → TrimsFor ids c t later
  left_trims t h = record {
    enters = record { adds = h.enters.adds; same = h.enters.same };
    told = h.told;
    old = h.old;
    new = h.new;
    stood = h.stood;
    trims = h.trims;
  }

  pub left_may_trim : (out : Caller) (r : Result Trim Refusal) → out ≡ left c → MayTrim ids out r later → MayTrim ids c r later
  left_may_trim out (Ok t) is h = left_trims t (subst (λ (y : Caller). TrimsFor ids y t later) is h)
  left_may_trim out (Err e) is h = subst (λ (y : Caller). ShowsTo y later) is h

  pub left_checked : (out : Caller) (r : Result Trimmed Refusal) → out ≡ left c
      → MatchResult r (λ t. Makes ids out Event.trimming WireEvent.trim (said (trimmed_view t)) later) (λ e. ShowsTo out later)
      → MatchResult r (λ t. Makes ids c Event.trimming WireEvent.trim (said (trimmed_view t)) later) (λ e. ShowsTo c later)
  left_checked out (Ok t) is h = left_makes out Event.trimming WireEvent.trim (said (trimmed_view t)) is h
  left_checked out (Err e) is h = subst (λ (y : Caller). ShowsTo y later) is h
