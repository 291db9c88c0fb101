-- What the requests of a connection are answered, over a world of the store and what is kept of it (RFC 9112).
use Rattle.std.specs.Prelude.{◌≡◌, ℕ, List, [], ◌++◌, Bool, true, if◌then◌else◌}
use Rattle.std.specs.Prelude.{nat_eq, Option, None, Some, Result, Err, codes}
use Rattle.std.specs.Cmp.Lexicographic.{pointwise}
use Rattle.kv_model.specs.declared.ids.Ids.{Ids}
use Rattle.kv_model.specs.declared.refusal.Refusal.TheVariants as refusal
use Rattle.kv_model.specs.Answers.{Response, refused, fault_of, lost_fault}
use Rattle.kv_model.specs.Follows as follows
use Rattle.kv_model.specs.Follows.{Outcome}
use Rattle.kv_model.specs.Headline.{Keeping, Keeps}
use Rattle.kv_model.specs.Watches.{deliver}
use Rattle.kv_model.specs.Wire.{WireEvent, WireTold, WireOutcome, wire_step, is_free, takes_memory, MayLose, message_to}
use Rattle.kv_model.specs.World.{World, without_watch}
use Rattle.http_head.specs.Requests.{Asked, path_of}
use Rattle.http_reply.specs.declared.front.Front.{Front}
use Rattle.http_reply.specs.declared.front.Front.TheVariants as front
use Rattle.http_reply.specs.Replies.{chunk, last_chunk, reply_bytes}
use Rattle.http_loop.specs.Answered.{IsStreamOf}
use Rattle.http_loop.specs.Texts.{IsSent}

-- the whole history, and what is kept of it
pub record Standing : Type 0 where
  pub world : World
  pub keeping : Keeping

-- ---- one request

-- a request is a post of its body to its path; by another method than POST it has no path
abbrev pub path_asked : Asked → List ℕ
path_asked a = if pointwise nat_eq a.method (codes "POST") then path_of a.target else []

abbrev pub event_of : Asked → WireEvent
event_of a = WireEvent.post (path_asked a) a.body

-- the response that an outcome is told by
abbrev pub response_of : WireOutcome → Response
response_of Outcome.memory = refused (fault_of refusal.Memory)
response_of (Outcome.said (WireTold.reply r raised watch)) = r
response_of _ = refused lost_fault

-- the watch that it made
abbrev pub watch_of : WireOutcome → Option ℕ
watch_of (Outcome.lost l) = l.watch
watch_of (Outcome.said (WireTold.reply r raised watch)) = watch
watch_of _ = None

-- the watch whose messages answer the request: it was made, and its answer was not lost
abbrev pub streamed : WireOutcome → Option ℕ
streamed (Outcome.lost l) = None
streamed o = watch_of o

-- the request's outcome is the model's, and this stands after it
pub record IsOutcome (ids : Ids) (s : Standing) (a : Asked) (o : WireOutcome) (t : Standing) : Type 0 where
  pub answers : follows.Answers (wire_step ids) is_free takes_memory MayLose s.world (event_of a) o
  pub world : t.world ≡ follows.after_outcome (wire_step ids) s.world (event_of a) o
  pub keeps : Keeps ids s.world s.keeping (event_of a) o t.keeping

-- with another world, and all kept that was
abbrev pub with_world : Standing → World → Standing
with_world s w = record { world = w; keeping = s.keeping }

-- a watch that was made for the request is dropped
abbrev pub dropped : Option ℕ → Standing → Standing
dropped None s = s
dropped (Some n) s = with_world s (record s.world { watches = without_watch n s.world.watches })

-- The messages of a watch, and then the last chunk: what is written for them, what stands after them, and how they
-- ended. A delivery that found no memory ends them, and is not made.
pub data AreMessages (ids : Ids) (n : ℕ) : Standing → List ℕ → Standing → Result Bool Front → Type 0 where
  quiet : {s : Standing} {out : List ℕ} {r : Result Bool Front} → message_to ids s.world n ≡ None
      → IsSent true last_chunk out r → AreMessages ids n s out s r
  told : {s t : Standing} {text out : List ℕ} {r : Result Bool Front} → message_to ids s.world n ≡ Some text
      → AreMessages ids n (with_world s (deliver s.world n).1) out t r → AreMessages ids n s (chunk text ++ out) t r
  unsent : {s : Standing} {text out : List ℕ} {f : Front} → message_to ids s.world n ≡ Some text
      → IsSent true (chunk text) out (Err f) → AreMessages ids n s out (with_world s (deliver s.world n).1) (Err f)
  untold : {s : Standing} → AreMessages ids n s [] s (Err front.Memory)

-- What is written for a request, what stands after it, and whether the connection ends with it, or why its reply was
-- not written. No watch is left of it.
pub data IsAnswered (ids : Ids) (s : Standing) (a : Asked) : List ℕ → Standing → Result Bool Front → Type 0 where
  by_reply : {out : List ℕ} {t : Standing} {r : Result Bool Front} (o : WireOutcome) → IsOutcome ids s a o t
      → streamed o ≡ None
      → IsSent a.close (reply_bytes (response_of o) a.close) out r → IsAnswered ids s a out (dropped (watch_of o) t) r
  by_stream : {out : List ℕ} {t u : Standing} {r : Result Bool Front} (o : WireOutcome) (n : ℕ)
      → IsOutcome ids s a o t → streamed o ≡ Some n
      → IsStreamOf Standing (AreMessages ids n) (response_of o).body t out u r → IsAnswered ids s a out (dropped (Some n) u) r
