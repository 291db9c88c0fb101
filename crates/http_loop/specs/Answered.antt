-- What the requests of a connection are answered, by whoever answers them (RFC 9112). What stands before and after is a
-- value of S: of the one who answers, or the world that it stands for.
use Rattle.std.specs.Prelude.{◌≡◌, ℕ, ◌+◌, ◌^◌, ◌≤◌, List, [], ◌++◌, length, Bool, true, Option, None, Some}
use Rattle.std.specs.Prelude.{Result, Ok, Err, Vec}
use Rattle.std.specs.Global.{Global}
use Rattle.http_head.specs.Heads.{Fault, Names, window}
use Rattle.http_head.specs.Requests.{Asked, IsCut, ReadsAsked}
use Rattle.http_reply.specs.declared.front.Front.{Front}
use Rattle.http_reply.specs.declared.front.Front.TheVariants as front
use Rattle.http_reply.specs.Replies.{chunk, last_chunk, refusal_bytes, reply_bytes, stream_head}
use Rattle.json_gateway.specs.declared.outcome.Outcome.{Outcome}
use Rattle.json_gateway.specs.declared.outcome.Settled.{Settled}
use Rattle.json_gateway.specs.declared.outcome.Settled.TheVariants as settled
use Rattle.json_gateway.specs.Outcomes.{wire_response}
use Rattle.http_loop.specs.declared.answering.Told.{Told}
use Rattle.http_loop.specs.declared.answering.Told.TheVariants as told
use Rattle.http_loop.specs.declared.writing.Turn.{Turn}
use Rattle.http_loop.specs.declared.writing.Turn.TheVariants as turn
use Rattle.http_loop.specs.Texts.{IsSent, end_of, front_of, replies_more, turn_of}

-- the most messages of a stream, beside its first
abbrev pub most_messages : ℕ
most_messages = 2 ^ 64

-- The messages of a watch, k at most, and then the last chunk: what is written for them, what stands after them, and
-- how they ended.
pub data AreMessages (S : Type 0) (Tells : S → ℕ → Told → S → Type 0) (n : ℕ)
    : ℕ → S → List ℕ → S → Result Bool Front → Type 0 where
  -- no further one comes
  quiet : {s t : S} {out : List ℕ} {r : Result Bool Front} (k : ℕ) → Tells s n told.End t
      → IsSent true last_chunk out r → AreMessages S Tells n (1 + k) s out t r
  -- a message is a chunk, and others follow
  more : {s t u : S} {out : List ℕ} {r : Result Bool Front} (k : ℕ) (x : Vec ℕ Global) → Tells s n (told.Text x) t
      → AreMessages S Tells n k t out u r → AreMessages S Tells n (1 + k) s (chunk x.items ++ out) u r
  -- a chunk was not written to its end
  cut : {s t : S} {out : List ℕ} {f : Front} (k : ℕ) (x : Vec ℕ Global) → Tells s n (told.Text x) t
      → IsSent true (chunk x.items) out (Err f) → AreMessages S Tells n (1 + k) s out t (Err f)
  -- no memory was found for one
  untold : {s t : S} (k : ℕ) → Tells s n told.Memory t → AreMessages S Tells n (1 + k) s [] t (Err front.Memory)
  -- the stream goes on elsewhere
  away : {s t : S} (k : ℕ) → Tells s n told.Away t → AreMessages S Tells n (1 + k) s [] t (Ok true)
  -- as many as there may be were told
  spent : {s : S} {out : List ℕ} {r : Result Bool Front} → IsSent true last_chunk out r
      → AreMessages S Tells n 0 s out s r

-- the stream of a watch, whose messages are these: its head, its created message as the first chunk, and the messages
pub data IsStreamOf (S : Type 0) (Are : S → List ℕ → S → Result Bool Front → Type 0) (created : List ℕ) (s : S)
    : List ℕ → S → Result Bool Front → Type 0 where
  headless : {out : List ℕ} {f : Front} → IsSent true stream_head out (Err f) → IsStreamOf S Are created s out s (Err f)
  uncreated : (out : List ℕ) {f : Front} → IsSent true (chunk created) out (Err f)
      → IsStreamOf S Are created s (stream_head ++ out) s (Err f)
  whole : {out : List ℕ} {t : S} {r : Result Bool Front} → Are s out t r
      → IsStreamOf S Are created s (stream_head ++ (chunk created ++ out)) t r

-- the stream of the watch of a number, over whoever tells it
abbrev pub IsStream : (S : Type 0) → (S → ℕ → Told → S → Type 0) → ℕ → List ℕ → S → List ℕ → S → Result Bool Front → Type 0
IsStream S Tells n = IsStreamOf S (AreMessages S Tells n most_messages)

-- the watch whose messages answer a request: it was made, and its answer was not lost
abbrev pub streamed : Settled → Option ℕ → Option ℕ
streamed (settled.Reply r) watch = watch
streamed _ watch = None

-- an outcome is told by its reply, or by the stream of the watch that it made
abbrev pub IsTold : (S : Type 0) → (S → ℕ → Told → S → Type 0) → Option ℕ → Settled → Bool → S → List ℕ → S
    → Result Bool Front → Type 0
IsTold S Tells None x close s out t r = (t ≡ s) × IsSent close (reply_bytes (wire_response x) close) out r
IsTold S Tells (Some n) x close s out t r = IsStream S Tells n (wire_response x).body s out t r

-- What is written for a request, what stands after it, and whether the connection ends with it, or why its reply was
-- not written: it is answered once, that answer is told, and it is finished.
pub record IsAnswered (S : Type 0) (Answers : S → Asked → Outcome → S → Type 0) (Tells : S → ℕ → Told → S → Type 0)
    (Finishes : S → Option ℕ → S → Type 0) (s : S) (a : Asked) (out : List ℕ) (u : S) (r : Result Bool Front)
    : Type 0 where
  pub outcome : Outcome
  pub done : S
  pub written : S
  pub answers : Answers s a outcome done
  pub told : IsTold S Tells (streamed outcome.settled outcome.watch) outcome.settled a.close done out written r
  pub finishes : Finishes written outcome.watch u

-- what answering one request does: what stood, the request, what was written, what stands then, and how it ended
abbrev pub Way : Type 0 → Type 1
Way S = S → Asked → List ℕ → S → Result Bool Front → Type 0

-- one turn, of all the bytes that were to come: a request was answered, or none is there, and it is told why
pub data IsTurn (S : Type 0) (Is : Way S) (s : S) (bytes left : List ℕ) : S → Result Turn Front → List ℕ → Type 0 where
  -- the bytes begin with a request, which was answered
  answered : {t : S} {out : List ℕ} (a : Asked) (r : Result Bool Front) → ReadsAsked bytes a left → Is s a out t r
      → IsTurn S Is s bytes left t (turn_of r) out
  -- the input ends before a first byte
  ended : bytes ≡ [] → IsTurn S Is s bytes left s (Ok turn.End) []
  -- the input ends within a request
  within : IsCut bytes → IsTurn S Is s bytes left s (Err front.End) []
  -- the bytes begin with no request that is answered
  unanswered : {out : List ℕ} (f : Fault) (r : Result Bool Front) → Names f (window bytes)
      → IsSent true (refusal_bytes (front_of f)) out r → IsTurn S Is s bytes left s (Err (end_of (front_of f) r)) out
  -- a read failed
  unread : IsTurn S Is s bytes left s (Err front.Read) []
  -- no memory was found for as many bytes as wait
  unheld : 16384 ≤ length bytes → IsTurn S Is s bytes left s (Err front.Memory) []

-- how a turn ends a connection: with so many replies of its own, or why; one that others follow does not
abbrev pub last_of : Result Turn Front → Option (Result ℕ Front)
last_of (Ok turn.More) = None
last_of (Ok turn.Last) = Some (Ok 1)
last_of (Ok turn.End) = Some (Ok 0)
last_of (Err f) = Some (Err f)

-- From what stands, these bytes and so many requests at most: what is written, what stands then, and the number of
-- replies, or why there are no more.
pub data Conn (S : Type 0) (Is : Way S) : S → List ℕ → ℕ → List ℕ → S → Result ℕ Front → Type 0 where
  -- no more requests are to be answered
  at_limit : {s : S} {bytes : List ℕ} → Conn S Is s bytes 0 [] s (Ok 0)
  -- a request was answered, and then the others
  more : {s t u : S} {bytes rest text out : List ℕ} {r : Result ℕ Front} (limit : ℕ) → IsTurn S Is s bytes rest t (Ok turn.More) text
      → Conn S Is t rest limit out u r → Conn S Is s bytes (1 + limit) (text ++ out) u (replies_more 1 r)
  -- a turn that ends the connection
  last : {s t : S} {bytes rest text : List ℕ} {r : Result ℕ Front} (limit : ℕ) (x : Result Turn Front) → IsTurn S Is s bytes rest t x text
      → last_of x ≡ Some r → Conn S Is s bytes (1 + limit) text t r
