-- A turn of a stream: writes of what has not gone out, and messages of the engine, one after the other.
use Rattle.std.specs.List.{concat}
use Rattle.std.specs.Prelude.{◌≡◌, ℕ, ◌==◌, List, [], ◌++◌, map, Bool, true, false, Option, None, Some, Result, Ok, Err, if◌then◌else◌}
use Rattle.std.specs.Io.KnownBytes.{Appends, append_known}
use Rattle.kv_model.specs.declared.ids.Ids.{Ids}
use Rattle.kv_model.specs.Follows.{Outcome}
use Rattle.kv_model.specs.Wire.{WireOutcome, WireTold}
use Rattle.event_book.specs.Callers.{Gives}
use Rattle.event_book.specs.Events.{Entry, Event}
use Rattle.engine_lock.specs.Locked.{Caller}
use Rattle.http_reply.specs.Replies.{chunk, last_chunk}
use Rattle.watch_streams.specs.Lines.{LineState, Sends, is_out, is_stale}
use Rattle.watch_streams.specs.Streams.{TellsNext}
use Rattle.watch_streams.specs.declared.telling.Next.TheVariants as next
use Rattle.watch_streams.specs.declared.turning.Turn.{Turn}
use Rattle.watch_streams.specs.declared.turning.Turn.TheVariants as turn

-- what a turn comes to by a write that failed, or took nothing: its writer takes no more now, where the write may be made
-- again and its writer took a byte within the last so many looks; else the stream is over
abbrev pub unsent_turn : Bool → Bool → Turn
unsent_turn true false = turn.Blocked
unsent_turn true true = turn.Broken
unsent_turn false stale = turn.Broken

abbrev pub most_looks : ℕ
most_looks = 10

-- one write, and what the turn comes to by it, where it is the last step
pub data SentIs (l : LineState) : Option Turn → LineState → Type 0 where
  some : {new : LineState} (n : ℕ) → Sends l new (Ok n) → SentIs l None new
  none : is_out l ≡ true → SentIs l (Some turn.Done) l
  unsent : {new : LineState} (again : Bool) → Sends l new (Err again) → SentIs l (Some (unsent_turn again (is_stale most_looks l))) new

-- one step: a message, or a write of what has not gone out; and what the turn comes to, where it is the last
pub data Steps (ids : Ids) (c : Caller) (l : LineState) : Option Turn → Caller → LineState → Type 0 where
  told : {c' : Caller} {l' : LineState} → TellsNext ids c l next.Told c' l' → Steps ids c l None c' l'
  ended : {c' : Caller} {l' : LineState} → TellsNext ids c l next.Ended c' l' → Steps ids c l None c' l'
  quiet : {c' : Caller} {l' : LineState} → TellsNext ids c l next.Quiet c' l' → Steps ids c l (Some turn.Quiet) c' l'
  wanting : {c' : Caller} {l' : LineState} → TellsNext ids c l next.Wanting c' l' → Steps ids c l (Some turn.Wanting) c' l'
  cut : {c' : Caller} {l' : LineState} → TellsNext ids c l next.Cut c' l' → Steps ids c l (Some turn.Cut) c' l'
  sent : {c' : Caller} {l' new : LineState} {r : Option Turn} → TellsNext ids c l next.Waits c' l' → SentIs l' r new → Steps ids c l r c' new

-- some steps, of which none is the last
pub data Goes (ids : Ids) (c : Caller) (l : LineState) : Caller → LineState → Type 0 where
  stays : Goes ids c l c l
  more : {c' d : Caller} {l' m : LineState} → Goes ids c l c' l' → Steps ids c' l' None d m → Goes ids c l d m

-- a turn: its last step says what it comes to; or there are more steps to come
pub data Turned (ids : Ids) (c : Caller) (l : LineState) : Turn → Caller → LineState → Type 0 where
  on : {d : Caller} {m : LineState} → Goes ids c l d m → Turned ids c l turn.Again d m
  last : {c' d : Caller} {l' m : LineState} {t : Turn} → Goes ids c l c' l' → Steps ids c' l' (Some t) d m → Turned ids c l t d m

-- a message was lost by it
abbrev pub is_cut : Turn → Bool
is_cut turn.Cut = true
is_cut _ = false

-- the stream is over behind it
abbrev pub is_over : Turn → Bool
is_over turn.Done = true
is_over turn.Broken = true
is_over turn.Cut = true
is_over _ = false

-- ---- what goes out by it

-- by what a watch was told: the chunk of a message, and the last chunk where the watch is no more
abbrev pub chunk_of : WireOutcome → List ℕ
chunk_of (Outcome.said (WireTold.message text)) = chunk text
chunk_of (Outcome.said WireTold.no_watch) = last_chunk
chunk_of _ = []

-- on the stream of the watch of a number, of the events of a client: of each by which that watch was told
abbrev pub goes_out_by : ℕ → Event → WireOutcome → List ℕ
goes_out_by n (Event.delivery k) o = if k == n then chunk_of o else []
goes_out_by n _ o = []

abbrev pub goes_out_of : ℕ → Entry → List ℕ
goes_out_of n e = goes_out_by n e.event e.outcome

abbrev pub goes_out : ℕ → List Entry → List ℕ
goes_out n es = concat (map (goes_out_of n) es)

-- by all events of a client since, in order, just this goes out on the stream of this watch
pub record Tells (n : ℕ) (c : Caller) (text : List ℕ) (d : Caller) : Type 0 where
  pub more : List Entry
  pub gives : Gives c.holder more d.holder
  pub out : goes_out n more ≡ text

-- and on that of any other one nothing
abbrev pub TellsOnly : ℕ → Caller → List ℕ → Caller → Type 0
TellsOnly k c text d = (n : ℕ) → Tells n c (if k == n then text else []) d

-- what its writer is known to hold, with what has not gone out
abbrev pub bytes_of : LineState → Option (List ℕ)
bytes_of l = append_known l.wrote l.unsent

-- they grew by just this; and one that has ended stays so, and they grow no more
pub record Grows (l : LineState) (text : List ℕ) (m : LineState) : Type 0 where
  pub bytes : Appends (bytes_of l) (bytes_of m) text
  pub number : m.number ≡ l.number
  pub ended : l.ended ≡ true → (text ≡ []) × (m.ended ≡ true)

-- what went out since, with what has not, is just what the client's events since tell this watch, and they tell no other one
-- anything
abbrev pub IsExact : Caller → LineState → Caller → LineState → Type 0
IsExact c l d m = (text : List ℕ) × TellsOnly l.number c text d × Grows l text m
