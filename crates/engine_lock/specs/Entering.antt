-- What the calls of an engine say: each enters one event in the list of all events, for the client that makes it.
use Rattle.std.specs.Prelude.{◌≡◌, ◌+◌, ℕ, List, All, ◌++◌, Bool, true, false, None, Result, Ok, Err, MatchBool, map, sum, length}
use mathlib.Core.List.{IsPrefix}
use Rattle.kv_model.specs.declared.ids.Ids.{Ids}
use Rattle.kv_model.specs.declared.refusal.Refusal.{Refusal}
use Rattle.kv_model.specs.Commands.{call_of}
use Rattle.kv_model.specs.Feed.{Published}
use Rattle.kv_model.specs.Follows.Outcome.{said}
use Rattle.kv_model.specs.Wire.{WireEvent, WireOutcome, WireTold, is_physical_call, trim_told}
use Rattle.kv_model.specs.World.{World, revision}
use Rattle.store_laws.specs.Stands.{StandsFor}
use Rattle.trim_core.specs.declared.trimmer.Trim.{Trim}
use Rattle.trim_core.specs.Told.{told_of}
use Rattle.request_core.specs.declared.answer.Expiry.{Expiry}
use Rattle.request_core.specs.declared.answer.Expiry.TheVariants as expiry
use Rattle.request_core.specs.Commands.{Expires, RefusesExpiry, TrimsOnce}
use Rattle.request_core.specs.State.{CoreState}
use Rattle.json_gateway.specs.Outcomes.{IsBare, is_accepted}
use Rattle.json_gateway.specs.Runs.{command_view}
use Rattle.json_gateway.specs.Steps.{Steps}
use Rattle.event_book.specs.Asking.{Asking}
use Rattle.event_book.specs.Callers.{Adds, AreAll, Shows, made_by_all}
use Rattle.event_book.specs.Events.{Entry, Event, IsHistory, clocked, led_to}
use Rattle.event_book.specs.Publishing.{published_by}
use Rattle.event_book.specs.Raising.{raises}
use Rattle.event_script.specs.Notes.{step_outcome}
use Rattle.engine_lock.specs.Locked.{Caller, knowing}
use Rattle.engine_lock.specs.declared.engine.Submitted.{Submitted}

-- how many changes a client made: by how much its events raised the revision
abbrev pub made_by : Caller → ℕ
made_by c = raises c.holder

-- ---- one event

-- The list grew by events of others, and then by just this one of this client, about what the client names; its outcome is
-- the model's in the world behind those. The client has seen the list up to it, and has left its reading.
pub record Enters (ids : Ids) (c : Caller) (e : Event) (o : WireOutcome) (later : Caller) : Type 0 where
  pub adds : Adds ids c.holder c.about e o later.holder
  pub same : later ≡ knowing c later.holder later.reader.known

-- the list just before the event, and the world that it was made in, at its moment
abbrev pub before : (ids : Ids) (c : Caller) (e : Event) (o : WireOutcome) (later : Caller) → Enters ids c e o later → World
before ids c e o later x = clocked (led_to (c.holder.front ++ x.adds.between)) e

-- where this says so, the client was told for its reads of all that the events publish which it has seen, and else of nothing
abbrev pub IsTold : Bool → Caller → Caller → Type 0
IsTold published c later = MatchBool published
    ((published_by later.reader.known ≡ published_by later.holder.front) × IsPrefix c.reader.known later.reader.known)
    (later.reader.known ≡ c.reader.known)

-- where this says so, of events that publish all of these operations, and begin with all that it knew of; else of nothing
abbrev pub Learns : Bool → List Published → Caller → Caller → Type 0
Learns all fed c later = MatchBool all ((published_by later.reader.known ≡ fed) × IsPrefix c.reader.known later.reader.known)
    (later.reader.known ≡ c.reader.known)

-- one that is in no reading is in none afterwards, and its reader is of the same list
abbrev pub StaysOut : Caller → Caller → Type 0
StaysOut c later = (later.reader.book ≡ c.reader.book) × (c.reader.inside ≡ false → later.reader.inside ≡ false)

-- the event was entered, and the client told nothing for its reads
abbrev pub EntersAlone : Ids → Caller → Event → WireOutcome → Caller → Type 0
EntersAlone ids c e o later = Enters ids c e o later × IsTold false c later

-- nothing was entered: the list grew by events of others, and the client has seen it
abbrev pub ShowsTo : Caller → Caller → Type 0
ShowsTo c later = Shows c.holder later.holder × (later ≡ knowing c later.holder c.reader.known)

-- ---- commands, expiry, and the moment by itself

-- A moment was handed in and a command done, in one holding. Its answer waits for trimming where the model's does.
pub record Submits (ids : Ids) (c : Caller) (now : ℕ) (asking : Asking) (s : Submitted) (later : Caller) : Type 0 where
  pub enters : Enters ids c (Event.command now asking) (command_view s.outcome) later
  pub told : IsTold s.published c later
  pub revision : s.revision ≡ revision (led_to later.holder.front)
  pub bare : IsBare s.outcome
  pub ready : is_accepted s.outcome.settled ≡ false → s.outcome.waits ≡ false
  pub waits : is_accepted s.outcome.settled ≡ true
      → s.outcome.waits ≡ is_physical_call (before ids c (Event.command now asking) (command_view s.outcome) later enters) (Ok (call_of asking.command))

-- a step of expiry was made on a core, and this is what it tells
abbrev pub MakesExpiry : CoreState → CoreState → Result Expiry Refusal → Type 0
MakesExpiry old new (Ok e) = Expires old new e
MakesExpiry old new (Err e) = RefusesExpiry old new e

-- whether it raised the revision
abbrev pub raises_revision : Result Expiry Refusal → Bool
raises_revision (Ok expiry.Nothing) = false
raises_revision (Ok (expiry.Expired id revision raised)) = raised
raises_revision (Err e) = false

-- A moment was handed in and a step of expiry made, on a core that stood for the world before it.
pub record SubmitsExpiry (ids : Ids) (c : Caller) (now : ℕ) (r : Result Expiry Refusal) (later : Caller) : Type 0 where
  pub enters : Enters ids c (Event.expiry now) (step_outcome r) later
  pub published : Bool
  pub told : IsTold published c later
  pub old : CoreState
  pub new : CoreState
  pub stood : StandsFor old.store (before ids c (Event.expiry now) (step_outcome r) later enters)
  pub makes : MakesExpiry old new r

-- and the client was told nothing for its reads yet
abbrev pub ExpiresUntold : Ids → Caller → ℕ → Result Expiry Refusal → Caller → Type 0
ExpiresUntold ids c now r later = (s : SubmitsExpiry ids c now r later) × (s.published ≡ false)

-- A moment was handed in, and the client was told of all that was done.
pub record CatchesUp (ids : Ids) (c : Caller) (now : ℕ) (is_told : Bool) (later : Caller) : Type 0 where
  pub clock : ℕ
  pub enters : Enters ids c (Event.moment now) (said (WireTold.clock clock)) later
  pub told : IsTold is_told c later

-- ---- trimming

-- a step was made on a core that stood for the world of the list, and it tells so
pub record TrimsFor (ids : Ids) (c : Caller) (t : Trim) (later : Caller) : Type 0 where
  pub enters : Enters ids c Event.trimming (said (trim_told (told_of t) None)) later
  pub told : IsTold false c later
  pub old : CoreState
  pub new : CoreState
  pub stood : StandsFor old.store (before ids c Event.trimming (said (trim_told (told_of t) None)) later enters)
  pub trims : TrimsOnce old new t

-- or there was no memory to tell readers of it
abbrev pub MayTrim : Ids → Caller → Result Trim Refusal → Caller → Type 0
MayTrim ids c (Ok t) later = TrimsFor ids c t later
MayTrim ids c (Err e) later = ShowsTo c later

-- ---- events of a run that nobody's request asks for

-- It was made on a core that stood for the world before it, and its outcome is that of a run there: what is told is the
-- model's, and what is kept is as a run has to keep it.
pub record Makes (ids : Ids) (c : Caller) (e : Event) (event : WireEvent) (o : WireOutcome) (later : Caller) : Type 0 where
  pub enters : Enters ids c e o later
  pub published : Bool
  pub told : IsTold published c later
  pub old : CoreState
  pub new : CoreState
  pub stood : StandsFor old.store (before ids c e o later enters)
  pub steps : Steps ids (before ids c e o later enters) event o old new

-- ---- the end

-- The list of all events is a history; the core stands for the world that it leads to; each event is of one of the clients,
-- each of which has seen all of its own, as many as they made; all that a client knows of for its reads begins the list; and
-- the revision is 1 plus all changes that they made.
pub record Closes (ids : Ids) (core : CoreState) (clients : List Caller) : Type 0 where
  pub log : List Entry
  pub history : IsHistory ids log
  pub stands : StandsFor core.store (led_to log)
  pub all : AreAll log (map (λ c. c.holder) clients)
  pub made : length log ≡ made_by_all (map (λ c. c.holder) clients)
  pub known : All (λ (c : Caller). IsPrefix c.reader.known log) clients
  pub raised : core.store.revision ≡ 1 + sum (map made_by clients)
