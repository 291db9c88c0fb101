-- What one step of a connection comes to that waits between its steps: Answers says what a request comes to, but for
-- what its answer waits for.
use Rattle.std.specs.Prelude.{◌≡◌, ℕ, List, [], ◌++◌, Bool, true, false, Option, Result, Ok, Err}
use Rattle.std.specs.Io.KnownBytes.{Appends}
use Rattle.http_head.specs.Requests.{Asked, ReadsAsked}
use Rattle.http_reply.specs.declared.front.Front.{Front}
use Rattle.json_gateway.specs.declared.outcome.Outcome.{Outcome}
use Rattle.http_loop.specs.declared.answering.Told.{Told}
use Rattle.http_loop.specs.declared.stepping.Step.{Step}
use Rattle.http_loop.specs.declared.stepping.Step.TheVariants as step
use Rattle.http_loop.specs.declared.stepping.Waiting.{Waiting}
use Rattle.http_loop.specs.declared.writing.Turn.{Turn}
use Rattle.http_loop.specs.declared.writing.Turn.TheVariants as turn
use Rattle.http_loop.specs.Answered.{IsAnswered, IsTold, streamed}
use Rattle.http_loop.specs.Texts.{Grows, turn_of}
use Rattle.http_loop.specs.Turned.{Gave, MayHaveAfter, Progress, TurnsOnce}

-- a request was answered, and the answer waits for nothing
abbrev pub AtOnce : {S : Type 0} → (S → Asked → Outcome → S → Type 0) → S → Asked → Outcome → S → Type 0
AtOnce Answers s a o t = Answers s a o t × (o.waits ≡ false)

-- what an outcome comes to once it is told: what was written, what stands then, and how the reply ended
pub record EndsWith (S : Type 0) (Tells : S → ℕ → Told → S → Type 0) (Finishes : S → Option ℕ → S → Type 0) (o : Outcome)
    (close : Bool) (s : S) (out : List ℕ) (u : S) (r : Result Bool Front) : Type 0 where
  pub written : S
  pub told : IsTold S Tells (streamed o.settled o.watch) o.settled close s out written r
  pub finishes : Finishes written o.watch u

-- a reply ended, and the turn with it
pub record Finished (c c' : Option (List ℕ)) (Ends : List ℕ → Result Bool Front → Type 0) (r : Result Turn Front) : Type 0 where
  pub ended : Result Bool Front
  pub is : r ≡ turn_of ended
  pub wrote : Grows c c' (λ out. Ends out ended)

-- a request was done; it was told at once, or nothing was written, and its answer waits
abbrev pub Begun : (S : Type 0) → (S → Asked → Outcome → S → Type 0) → (S → ℕ → Told → S → Type 0)
    → (S → Option ℕ → S → Type 0) → Asked → S → Option (List ℕ) → S → Option (List ℕ) → Result Step Front → Type 0
Begun S Answers Tells Finishes a s c t c' (Ok (step.Turned x)) = Finished c c'
    (λ out r. IsAnswered S (AtOnce Answers) Tells Finishes s a out t r) (Ok x)
Begun S Answers Tells Finishes a s c t c' (Ok (step.Waits w)) = Answers s a w.outcome t × (w.outcome.waits ≡ true)
    × (w.close ≡ a.close) × Appends c c' []
Begun S Answers Tells Finishes a s c t c' (Err f) = Finished c c'
    (λ out r. IsAnswered S (AtOnce Answers) Tells Finishes s a out t r) (Err f)

-- A request was read and done, and nothing was written: its answer waits. The bytes begin with it, whatever comes.
pub record Waits (S : Type 0) (Answers : S → Asked → Outcome → S → Type 0) (old new : Progress S) (w : Waiting) : Type 0 where
  pub came : List ℕ
  pub gave : Gave old.left came new.left
  pub request : Asked
  pub reads : (later : List ℕ) → MayHaveAfter new.left (Ok turn.More) later
      → ReadsAsked (old.pending ++ (came ++ later)) request (new.pending ++ later)
  pub answers : Answers old.state request w.outcome new.state
  pub waits : w.outcome.waits ≡ true
  pub close : w.close ≡ request.close
  pub quiet : Appends old.wrote new.wrote []

-- A read failed before a request was there whole: nothing was done or written, and what was read stands behind what waited.
pub record ReadsOn (S : Type 0) (old new : Progress S) : Type 0 where
  pub came : List ℕ
  pub gave : Gave old.left came new.left
  pub pending : new.pending ≡ old.pending ++ came
  pub state : new.state ≡ old.state
  pub quiet : Appends old.wrote new.wrote []

-- one step led from the one to the other: it was a turn whose answer waits for nothing, or it waits
abbrev pub Steps : (S : Type 0) → (S → Asked → Outcome → S → Type 0) → (S → ℕ → Told → S → Type 0)
    → (S → Option ℕ → S → Type 0) → Progress S → Progress S → Result Step Front → Type 0
Steps S Answers Tells Finishes old new (Ok (step.Turned t)) = TurnsOnce S (IsAnswered S (AtOnce Answers) Tells Finishes) old new (Ok t)
Steps S Answers Tells Finishes old new (Ok (step.Waits w)) = Waits S Answers old new w
Steps S Answers Tells Finishes old new (Err f) = TurnsOnce S (IsAnswered S (AtOnce Answers) Tells Finishes) old new (Err f)
