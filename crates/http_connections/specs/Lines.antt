-- What a connection is answered over its whole life, by whichever clients of an engine.
use Rattle.std.specs.Prelude.{◌≡◌, ◌⊎◌, ◌<◌, ℕ, ◌++◌, Bool, true, false, List, Option, None, Some, MatchOption, Result, Ok, Err, ⊤}
use mathlib.Core.List.{IsPrefix}
use Rattle.kv_model.specs.declared.ids.Ids.{Ids}
use Rattle.http_head.specs.Requests.{Asked}
use Rattle.http_reply.specs.declared.front.Front.{Front}
use Rattle.http_reply.specs.declared.front.Front.TheVariants as front
use Rattle.json_gateway.specs.declared.outcome.Outcome.{Outcome}
use Rattle.json_gateway.specs.declared.outcome.Settled.TheVariants as settled
use Rattle.event_book.specs.Events.{Entry}
use Rattle.engine_lock.specs.Locked.{Caller, naming}
use Rattle.engine_lock.specs.declared.engine.Submitted.{Submitted}
use Rattle.http_loop.specs.declared.answering.Told.{Told}
use Rattle.http_loop.specs.declared.answering.Told.TheVariants as told
use Rattle.http_loop.specs.Answered.{IsAnswered}
use Rattle.http_loop.specs.Stepped.{EndsWith, Finished, Waits}
use Rattle.http_loop.specs.declared.stepping.Step.{Step}
use Rattle.http_loop.specs.declared.stepping.Step.TheVariants as step
use Rattle.http_loop.specs.declared.stepping.Waiting.{Waiting as Pending}
use Rattle.http_loop.specs.declared.writing.Turn.{Turn}
use Rattle.http_loop.specs.declared.writing.Turn.TheVariants as turn
use Rattle.http_loop.specs.Turned.{Progress, Serves, SoFar, progress}
use Rattle.http_connections.specs.Engines as engines
use Rattle.http_connections.specs.Engines.{Gets}
use Rattle.http_connections.specs.declared.life.Stage.{Stage}
use Rattle.http_connections.specs.declared.life.Stage.TheVariants as stage
use Rattle.http_connections.specs.declared.awaiting.Trimming.{Trimming}
use Rattle.http_connections.specs.declared.trimming.Trimmed.{Trimmed}
use Rattle.http_connections.specs.declared.trimming.Trimmed.TheVariants as trimmed
use Rattle.http_connections.specs.declared.turns.After.{After}
use Rattle.http_connections.specs.declared.turns.After.TheVariants as after
use Rattle.http_connections.specs.Handing as handing
use Rattle.http_connections.specs.Handing.{Hands}

-- what a connection knows of, which each reading for it begins with; its watch whose stream goes on elsewhere; and all events
-- that were made for it, in order
pub record Known : Type 0 where
  pub front : List Entry
  pub away : Option ℕ
  pub made : List Entry

-- so much does the connection know of from then on, and so many more events were made for it
abbrev pub learnt : Known → List Entry → Caller → Known
learnt k own c = record k { front = c.reader.known; made = k.made ++ own }

-- Some client did this for a connection: it knew of all that the connection knows of, and all events that were made for the
-- client meanwhile are about the connection, and are the connection's own from then on.
pub record ByAClient (call : ℕ) (Does : Caller → Caller → Type 0) (k later : Known) : Type 0 where
  pub client : Caller
  pub then : Caller
  pub does : Does client then
  pub knows : IsPrefix k.front client.reader.known
  pub about : client.about ≡ call
  pub gets : Gets client then
  pub learns : later ≡ learnt k gets.own then

module _ (ids : Ids) (recorded : Bool) (At : ℕ → Type 0) (call : ℕ) where
  -- a request came to this first
  abbrev pub AnswersFirst : Known → Asked → Submitted → Known → Type 0
  AnswersFirst k a s = ByAClient call (λ c d. engines.AnswersFirst ids recorded At c a s d) k

  -- trimming steps were made for it, by one client and then another, of which the last so many were refused
  pub data AreMade (k : Known) : ℕ → Known → Type 0 where
    none : AreMade k 0 k
    more : {n m : ℕ} {j later : Known} → AreMade k n j → ByAClient call (λ c d. engines.AreMadeBehind ids c n m d) j later → AreMade k m later

  -- and one more said that trimming is done; or it was given up, after 1,000 refusals in a row
  abbrev pub AreTrimmed : Bool → Known → Known → Type 0
  AreTrimmed true k later = (from : Known) × (n : ℕ) × AreMade k n from × ByAClient call (engines.Last ids) from later
  AreTrimmed false k later = AreMade k 1000 later

  abbrev pub Answers : Known → Asked → Outcome → Known → Type 0
  Answers k a = engines.ComesTo Known (λ k s later. AnswersFirst k a s later) AreTrimmed k

  -- a stream goes on elsewhere at once
  abbrev pub Tells : Known → ℕ → Told → Known → Type 0
  Tells k n told.Away later = later ≡ record k { away = Some n }
  Tells k n _ later = ⊥

  -- behind a reply the watch that its request made is ended, unless its stream goes on elsewhere
  abbrev pub Finishes : Known → Option ℕ → Known → Type 0
  Finishes k w later = MatchOption k.away (ByAClient call (λ c d. engines.Finishes ids c w d) k later) (λ n. later ≡ k)

  -- what a request of the connection is answered
  abbrev pub Is : Known → Asked → List ℕ → Known → Result Bool Front → Type 0
  Is = IsAnswered Known Answers Tells Finishes

  -- ---- how far a connection has come since it began: its client knew of no more than this, and these events were made for it

  -- so many requests were answered, and a next one is waited for
  pub record Waiting (begun : Progress Known) (known made : List Entry) (left : Option (List ℕ)) (pending : List ℕ) (wrote : Option (List ℕ)) : Type 0 where
    pub count : ℕ
    pub knows : Known
    pub so_far : SoFar Known Is count begun (progress knows left pending wrote)
    pub here : knows.away ≡ None
    pub within : IsPrefix knows.front known
    pub all : knows.made ≡ made

  -- and the next one was done, nothing of its reply was written, and trimming was done for it so far
  pub record Hangs (begun : Progress Known) (known made : List Entry) (left : Option (List ℕ)) (pending : List ℕ) (wrote : Option (List ℕ)) (x : Trimming) : Type 0 where
    pub count : ℕ
    pub before : Progress Known
    pub so_far : SoFar Known Is count begun before
    pub submitted : Submitted
    pub first : Known
    pub waits : Waits Known (λ k a o later. AnswersFirst k a submitted later × (o ≡ submitted.outcome)) before
        (progress first left pending wrote) x.waiting
    pub revision : x.revision ≡ submitted.revision
    pub knows : Known
    pub steps : AreMade first x.refusals knows
    pub here : knows.away ≡ None
    pub within : IsPrefix knows.front known
    pub all : knows.made ≡ made

  -- no further one is answered
  pub record Ended (begun : Progress Known) (made : List Entry) (wrote : Option (List ℕ)) : Type 0 where
    pub count : ℕ
    pub knows : Known
    pub all : knows.made ≡ made
    pub end : Result ℕ Front
    pub serves : (most : ℕ) → count < most → Serves Known Is most begun wrote knows end

  abbrev pub Lives : Progress Known → List Entry → List Entry → Option (List ℕ) → List ℕ → Option (List ℕ) → Stage → Type 0
  Lives begun known made left pending wrote stage.Reading = Waiting begun known made left pending wrote
  Lives begun known made left pending wrote (stage.Trimming x) = Hangs begun known made left pending wrote x
  Lives begun known made left pending wrote (stage.Streaming n) = (e : Ended begun made wrote) × (e.knows.away ≡ Some n)
  Lives begun known made left pending wrote stage.Closing = Ended begun made wrote

-- what is seen of a connection: how far it is, what its client knows of, what its reader still has, what has come and was
-- not answered, and what has gone out with what is to
pub record Sight : Type 0 where
  pub stage : Stage
  pub far : Progress (List Entry)

abbrev pub sight : Stage → List Entry → Option (List ℕ) → List ℕ → Option (List ℕ) → Sight
sight s known left pending wrote = record { stage = s; far = progress known left pending wrote }

-- However it came as far as the one, it has come as far as the other: nothing that it was asked or answered is lost, nor
-- what is still to be asked or written, and nothing is added. All events that were made for the client meanwhile are about it,
-- and are those that it was answered by: each is one's that it asked for, and there is none besides.
pub record Goes (ids : Ids) (recorded : Bool) (At : ℕ → Type 0) (call : ℕ) (c d : Caller) (x y : Sight) : Type 0 where
  pub gets : Gets (naming c call) (naming d call)
  pub goes : (begun : Progress Known) (made : List Entry)
      → Lives ids recorded At call begun x.far.state made x.far.left x.far.pending x.far.wrote x.stage
      → Lives ids recorded At call begun y.far.state (made ++ gets.own) y.far.left y.far.pending y.far.wrote y.stage

-- ---- turns

-- only where the stream of a watch has begun it goes on elsewhere
abbrev pub IsAway : After → Stage → Type 0
IsAway (after.Away n) s = s ≡ stage.Streaming n
IsAway _ s = ⊤

-- how far a connection is behind a turn, by which the stream of this watch goes on elsewhere
abbrev pub stage_of : Result Turn Front → Option ℕ → Stage
stage_of (Ok turn.More) away = stage.Reading
stage_of (Ok turn.Last) (Some n) = stage.Streaming n
stage_of _ away = stage.Closing

-- an answer waits for trimming, of which nothing was done
abbrev pub IsHeld : Pending → ℕ → Stage → Type 0
IsHeld w revision (stage.Trimming x) = (x.waiting ≡ w) × (x.revision ≡ revision) × (x.refusals ≡ 0)
IsHeld w revision _ = ⊥

-- or a step: a request was done whose answer waits; or a read failed since nothing more is there, which ends nothing
abbrev pub IsBehind : Result Step Front → Bool → Option ℕ → ℕ → Stage → Type 0
IsBehind (Ok (step.Turned t)) dry away revision x = x ≡ stage_of (Ok t) away
IsBehind (Ok (step.Waits w)) dry away revision x = IsHeld w revision x
IsBehind (Err f) dry away revision x = (x ≡ stage.Closing) ⊎ ((f ≡ front.Read) × (dry ≡ true) × (x ≡ stage.Reading))

-- the reply of a request was written that was done before, and the connection is so far then
pub record EndsWait (ids : Ids) (w : Pending) (s : Hands) (c : Option (List ℕ)) (t : Hands) (c' : Option (List ℕ)) (x : Stage) : Type 0 where
  pub turned : Result Turn Front
  pub finished : Finished c c' (λ out r. EndsWith Hands handing.Tells (handing.Finishes ids) w.outcome w.close s out t r) turned
  pub stage : x ≡ stage_of turned t.handed

-- some trimming steps were made for a client, of which so many before them were refused in a row
abbrev pub TrimsSome : Ids → Caller → ℕ → Trimmed → Caller → Type 0
TrimsSome ids c before trimmed.Done d = engines.AreTrimmed ids before true c d
TrimsSome ids c before trimmed.Lost d = engines.AreTrimmed ids before false c d
TrimsSome ids c before (trimmed.Left n) d = engines.AreMadeBehind ids c before n d × (n < 1000)

-- what waits is lost, and the store was changed
abbrev pub lost_wait : Pending → ℕ → Pending
lost_wait w revision = record w { outcome = record w.outcome { settled = settled.Lost revision; waits = false } }
