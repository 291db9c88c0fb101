-- What an engine answers a connection, on behalf of one of its clients: by the events that are made for that client in the
-- list of all events, and by what the client reads beside the engine.
use Rattle.std.specs.Prelude.{◌≡◌, ◌⊎◌, ℕ, ◌+◌, All, Bool, true, false, List, Option, None, Some, Result, Ok, Err, MatchBool, ⊤}
use mathlib.Core.List.{IsPrefix}
use Rattle.kv_model.specs.declared.ids.Ids.{Ids}
use Rattle.kv_model.specs.declared.call.Command.{Command}
use Rattle.kv_model.specs.declared.call.Command.TheVariants as commands
use Rattle.kv_model.specs.declared.call.RangeQuery.{RangeQuery}
use Rattle.kv_model.specs.declared.refusal.Refusal.{Refusal}
use Rattle.kv_model.specs.declared.refusal.Refusal.TheVariants.{Memory}
use Rattle.kv_model.specs.Answers.{Response, fault_of, refused, success_response}
use Rattle.kv_model.specs.Commands.{call_of}
use Rattle.kv_model.specs.Follows.Outcome.{memory, said}
use Rattle.kv_model.specs.History.{end_of}
use Rattle.kv_model.specs.Ranges as ranges
use Rattle.kv_model.specs.Requests.{request_of}
use Rattle.kv_model.specs.Told as model
use Rattle.kv_model.specs.Wire.{WireEvent, WireTold}
use Rattle.store_laws.specs.Changes.{untrimmed}
use Rattle.store_laws.specs.Snapshots.{Untrimmed}
use Rattle.trim_core.specs.declared.trimmer.Trim.{Trim}
use Rattle.trim_core.specs.Told.{told_of}
use Rattle.range_view.specs.declared.reply.RangeReply.{RangeReply}
use Rattle.range_view.specs.Replies.{reply_view}
use Rattle.gateway_read.specs.declared.bad.Bad.{Bad}
use Rattle.gateway_read.specs.Reading.{Fails}
use Rattle.http_head.specs.Requests.{Asked}
use Rattle.json_gateway.specs.declared.outcome.Outcome.{Outcome}
use Rattle.json_gateway.specs.declared.outcome.Settled.{Settled}
use Rattle.json_gateway.specs.declared.outcome.Settled.TheVariants as settled
use Rattle.json_gateway.specs.Endings.{Refuses, fault_of_reading, is_done, is_want}
use Rattle.json_gateway.specs.Outcomes.{response_of}
use Rattle.event_book.specs.Asking.{Asking}
use Rattle.event_book.specs.Callers.{Gives}
use Rattle.event_book.specs.Events.{Entry, Event, led_to}
use Rattle.engine_lock.specs.Entering as lock
use Rattle.engine_lock.specs.Entering.{EntersAlone, ShowsTo, TrimsFor}
use Rattle.engine_lock.specs.Locked.{Caller, knowing, left}
use Rattle.engine_lock.specs.declared.engine.Submitted.{Submitted}
use Rattle.http_loop.specs.declared.answering.Told.{Told}
use Rattle.http_loop.specs.declared.answering.Told.TheVariants as told
use Rattle.http_loop.specs.Connections.{path_asked}

-- ---- trimming, for an answer that waits for it

-- Trimming steps were made for a client, one after the other, of which the last so many were refused for want of memory,
-- those before them counted, of which there were so many.
pub data AreMadeBehind (ids : Ids) (c : Caller) (before : ℕ) : ℕ → Caller → Type 0 where
  none : AreMadeBehind ids c before before c
  more : {n : ℕ} {d later : Caller} (t : Trim) → AreMadeBehind ids c before n d → TrimsFor ids d t later
      → AreMadeBehind ids c before 0 later
  again : {n : ℕ} {d later : Caller} → AreMadeBehind ids c before n d → ShowsTo d later
      → AreMadeBehind ids c before (n + 1) later

-- the last of them said that trimming is done
pub record Last (ids : Ids) (from later : Caller) : Type 0 where
  pub last : Trim
  pub trims : TrimsFor ids from last later
  pub ends : is_done (told_of last) ≡ true

-- they ended with one that says that trimming is done; or it was given up, after 1,000 refusals in a row
abbrev pub AreTrimmed : Ids → ℕ → Bool → Caller → Caller → Type 0
AreTrimmed ids before true c later = (from : Caller) × (n : ℕ) × AreMadeBehind ids c before n from × Last ids from later
AreTrimmed ids before false c later = AreMadeBehind ids c before 1000 later

-- the store was changed, and the answer is lost
abbrev pub lost_answer : Submitted → Outcome
lost_answer s = record s.outcome { settled = settled.Lost s.revision; waits = false }

-- The outcome of a command, once the trimming that its answer waits for is done; where that was given up it is lost. What
-- stands before and after is a value of S: a client, or what a connection knows of.
pub data Awaits (S : Type 0) (Trims : Bool → S → S → Type 0) (s : Submitted) : Outcome → S → S → Type 0 where
  at_once : {c : S} → s.outcome.waits ≡ false → Awaits S Trims s s.outcome c c
  behind : {c later : S} → s.outcome.waits ≡ true → Trims true c later → Awaits S Trims s s.outcome c later
  lost : {c later : S} → s.outcome.waits ≡ true → Trims false c later → Awaits S Trims s (lost_answer s) c later

-- what a request comes to: this first, and then the trimming that its answer waits for
pub record ComesTo (S : Type 0) (First : S → Submitted → S → Type 0) (Trims : Bool → S → S → Type 0) (s : S) (o : Outcome) (later : S) : Type 0 where
  pub submitted : Submitted
  pub told : S
  pub first : First s submitted told
  pub awaits : Awaits S Trims submitted o told later

-- ---- a Range that is read beside the engine

-- the model's answer to a Range over a whole history, and its response
abbrev pub answer_over : Untrimmed → RangeQuery → Result ranges.RangeReply Refusal
answer_over u q = ranges.range_answer u.versions u.compacted u.revision (end_of u.revision) q

abbrev pub response_over : Ids → Result ranges.RangeReply Refusal → Response
response_over ids (Ok r) = success_response ids (record { reply = model.Reply.range r; revision = r.revision })
response_over ids (Err e) = refused (fault_of e)

-- a Range was answered so, or memory was wanting
abbrev pub IsAnswer : Result ranges.RangeReply Refusal → Result RangeReply Refusal → Type 0
IsAnswer told (Ok r) = told ≡ Ok (reply_view r)
IsAnswer told (Err e) = (e ≡ Memory) ⊎ (told ≡ Err e)

-- a response was given, or memory was wanting
abbrev pub SettlesAs : Response → Settled → Type 0
SettlesAs told (settled.Reply r) = response_of r ≡ told
SettlesAs told settled.Memory = ⊤
SettlesAs told (settled.Lost n) = ⊥

-- A client read on beside the engine, and left its reading: it knows of a front of the list of all events that begins with
-- this one.
pub record ReadsOn (c : Caller) (front : List Entry) (later : Caller) : Type 0 where
  pub known : List Entry
  pub begins : IsPrefix front known
  pub client : later ≡ knowing c c.holder known

-- A client read beside the engine, and left its reading: the answer is the model's in the world that a front of the list of
-- all events leads to, which begins with all that the client has read and was told of; and it knows of that front from then
-- on, and of what it saw later, where it read in parts.
pub record Reads (ids : Ids) (c : Caller) (q : RangeQuery) (o : Outcome) (later : Caller) : Type 0 where
  pub front : List Entry
  pub begins : IsPrefix c.reader.known front
  pub settles : SettlesAs (response_over ids (answer_over (untrimmed (led_to front)) q)) o.settled
  pub bare : (o.raised ≡ None) × (o.watch ≡ None) × (o.waits ≡ false)
  pub client : ReadsOn c front later

-- At a moment that was told, handed in as an event of its own, the client was told of all that the engine had done; or of
-- nothing.
abbrev pub CatchesUp : Ids → (ℕ → Type 0) → Bool → Caller → Caller → Type 0
CatchesUp ids At told c later = (now : ℕ) × At now × lock.CatchesUp ids c now told later

-- A reading of a Range begins: a serializable one with what the client knows of, any other once the client caught up, where
-- events are not written down.
abbrev pub Begins : Ids → Bool → (ℕ → Type 0) → Bool → Caller → Caller → Type 0
Begins ids recorded At serializable c later = MatchBool serializable (later ≡ c) ((recorded ≡ false) × CatchesUp ids At true c later)

-- it left its reading, or caught up or was to, and then read on or did not, and nothing else
pub record Stays (ids : Ids) (At : ℕ → Type 0) (c later : Caller) : Type 0 where
  pub from : Caller
  pub caught : (left from ≡ left c) ⊎ ((told : Bool) × CatchesUp ids At told c from)
  pub reads : (later ≡ from) ⊎ ReadsOn from from.reader.known later

-- It was read beside the engine.
pub record LooksUp (ids : Ids) (recorded : Bool) (At : ℕ → Type 0) (c : Caller) (query : RangeQuery) (o : Outcome) (later : Caller) : Type 0 where
  pub from : Caller
  pub begins : Begins ids recorded At query.serializable c from
  pub reads : Reads ids from query o later

-- Only for a Range that then was not read so is a client to catch up that does not read.
abbrev pub Starts : Ids → (ℕ → Type 0) → Command → Caller → Caller → Type 0
Starts ids At command c from = (left from ≡ left c) ⊎ ((query : RangeQuery) × (command ≡ commands.Range query) × Stays ids At c from)

-- ---- a command

-- It was submitted once, for that client, at a moment that was told (`At`), with the request for it; the trimming that its
-- answer waits for is not done yet.
pub record SubmitsFirst (ids : Ids) (At : ℕ → Type 0) (c : Caller) (asking : Asking) (s : Submitted) (later : Caller) : Type 0 where
  pub from : Caller
  pub starts : Starts ids At asking.command c from
  pub now : ℕ
  pub at : At now
  pub submits : lock.Submits ids from now asking s later

-- It is a Range, and it was read so.
abbrev pub Looks : Ids → Bool → (ℕ → Type 0) → Caller → Command → Outcome → Caller → Type 0
Looks ids recorded At c command o later = (query : RangeQuery) × (command ≡ commands.Range query) × LooksUp ids recorded At c query o later

-- ---- a request

-- a command that was read from the request with this path and body
abbrev pub asking_by : List ℕ → List ℕ → Command → Asking
asking_by path body command = record { command = command; request = Some (WireEvent.post path body) }

-- A request asked for a command, of which this is so.
pub record Did (path body : List ℕ) (Is : Command → Type 0) : Type 0 where
  pub command : Command
  pub is : request_of path body ≡ Ok (call_of command)
  pub does : Is command

-- A request asked for none, and is refused in the words of its fault; no event was made.
pub record Refused (path body : List ℕ) (c : Caller) (o : Outcome) (later : Caller) : Type 0 where
  pub bad : Bad
  pub fails : Fails bad (request_of path body)
  pub refuses : Refuses o.settled (is_want bad) (fault_of_reading bad)
  pub bare : (o.raised ≡ None) × (o.watch ≡ None) × (o.waits ≡ false)
  pub same : later ≡ c

-- Of a connection: the command was submitted, or a Range read beside the engine, by whether events are written down, and at a
-- moment that was told; but for the trimming that its answer waits for.
abbrev pub AnswersFirst : Ids → Bool → (ℕ → Type 0) → Caller → Asked → Submitted → Caller → Type 0
AnswersFirst ids recorded At c a s later = Did (path_asked a) a.body (λ command. SubmitsFirst ids At c (asking_by (path_asked a) a.body command) s later
    ⊎ Looks ids recorded At c command s.outcome later) ⊎ Refused (path_asked a) a.body c s.outcome later

-- and with that
abbrev pub Answers : Ids → Bool → (ℕ → Type 0) → Caller → Asked → Outcome → Caller → Type 0
Answers ids recorded At c a = ComesTo Caller (λ c s later. AnswersFirst ids recorded At c a s later) (AreTrimmed ids 0) c

-- of a script: it was submitted once, at the engine's clock, as the moment 0 leaves that, and the trimming was done
abbrev pub SubmitsAlone : Ids → Caller → Asking → Outcome → Caller → Type 0
SubmitsAlone ids c asking = ComesTo Caller (λ c s later. lock.Submits ids c 0 asking s later) (AreTrimmed ids 0) c

abbrev pub Posts : Ids → Caller → List ℕ → List ℕ → Outcome → Caller → Type 0
Posts ids c path body o later = Did path body (λ command. SubmitsAlone ids c (asking_by path body command) o later)
    ⊎ Refused path body c o later

-- ---- a stream

-- a delivery to a watch was made for a client, which told nothing or found no memory
abbrev pub IsQuiet : Ids → ℕ → Caller → Caller → Type 0
IsQuiet ids n c later = EntersAlone ids c (Event.delivery n) (said WireTold.nothing) later
    ⊎ EntersAlone ids c (Event.delivery n) memory later

-- or its stream was told so by it: where that ends, there was no such watch
abbrev pub Says : Ids → ℕ → Caller → Told → Caller → Type 0
Says ids n c (told.Text x) later = EntersAlone ids c (Event.delivery n) (said (WireTold.message x.items)) later
Says ids n c told.End later = EntersAlone ids c (Event.delivery n) (said WireTold.no_watch) later
Says ids n c _ later = ⊥

-- deliveries that told nothing were made, one after the other
pub data AreQuiet (ids : Ids) (n : ℕ) (c : Caller) : Caller → Type 0 where
  none : AreQuiet ids n c c
  more : {d later : Caller} → AreQuiet ids n c d → IsQuiet ids n d later → AreQuiet ids n c later

-- A stream is told what a delivery behind such ones told; or it ends, since somebody said that its client has left.
abbrev pub Tells : Ids → Type 0 → Caller → ℕ → Told → Caller → Type 0
Tells ids Left c n t later = ((from : Caller) × AreQuiet ids n c from × Says ids n from t later)
    ⊎ ((t ≡ told.End) × Left × AreQuiet ids n c later)

-- Behind a reply the watch that its request made is ended.
abbrev pub Finishes : Ids → Caller → Option ℕ → Caller → Type 0
Finishes ids c None later = later ≡ c
Finishes ids c (Some n) later = (stood : Bool) × EntersAlone ids c (Event.ending n) (said (WireTold.closed stood)) later

-- ---- all of it

-- These are, in order, all events that were made for a client meanwhile: each about what its next ones are about.
pub record Gets (c later : Caller) : Type 0 where
  pub own : List Entry
  pub gives : Gives c.holder own later.holder
  pub all : All (λ e. e.about ≡ c.about) own
  pub about : later.about ≡ c.about
