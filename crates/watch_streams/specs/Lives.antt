-- What becomes of a stream while others have their turns, and what went out of it meanwhile.
use Rattle.std.specs.Prelude.{◌≡◌, ◌⊎◌, ℕ, ◌==◌, List, [], ◌++◌, Bool, true, false, Option, Some}
use Rattle.std.specs.Io.KnownBytes.{Appends}
use Rattle.kv_model.specs.declared.ids.Ids.{Ids}
use Rattle.engine_lock.specs.Locked.{Caller}
use Rattle.http_reply.specs.Replies.{last_chunk}
use Rattle.watch_streams.specs.Ends.{Refuses}
use Rattle.watch_streams.specs.Lines.{LineState, aged, closed}
use Rattle.watch_streams.specs.Sets.{ChangesOne, LetsGo, SetState, TurnsOf, begun, line_at}
use Rattle.watch_streams.specs.Turns.{Tells, bytes_of, is_cut}
use Rattle.watch_streams.specs.declared.turning.Turn.{Turn}

-- one call while the stream of a watch stands: a turn of it by which no message was lost; or of another one any turn, its
-- beginning or its end; or of any the last chunk, or a look; or the end of a watch whose stream could not begin
pub data Passes (ids : Ids) (n : ℕ) (old new : SetState) : Type 0 where
  turns : (t : Turn) → is_cut t ≡ false → TurnsOf ids n old t new → Passes ids n old new
  another : (k : ℕ) (t : Turn) → (k == n) ≡ false → TurnsOf ids k old t new → Passes ids n old new
  begins : (k call : ℕ) (wrote : Option (List ℕ)) → (k == n) ≡ false → new ≡ begun k call wrote old → Passes ids n old new
  ends : (k : ℕ) → (k == n) ≡ false → LetsGo ids k old new → Passes ids n old new
  refuses : (k : ℕ) → Refuses ids k old new → Passes ids n old new
  closes : (k : ℕ) → ChangesOne closed k old new → Passes ids n old new
  ages : (k : ℕ) → ChangesOne aged k old new → Passes ids n old new

-- such calls, one after the other
pub data Lives (ids : Ids) (n : ℕ) (old : SetState) : SetState → Type 0 where
  stays : Lives ids n old old
  more : {s t : SetState} → Lives ids n old s → Passes ids n s t → Lives ids n old t

-- What went out of the stream of a watch since, with what has not, is just what the client's events since tell the watch, in
-- order, each once, whatever other events it made meanwhile; and the last chunk behind it, where the stream was ended before
-- its watch was.
pub record IsWhole (n : ℕ) (c : Caller) (l : LineState) (d : Caller) (m : LineState) : Type 0 where
  pub text : List ℕ
  pub tells : Tells n c text d
  pub last : List ℕ
  pub bytes : Appends (bytes_of l) (bytes_of m) (text ++ last)
  pub behind : (last ≡ []) ⊎ ((last ≡ last_chunk) × (m.ended ≡ true))

-- so it is of each stream, over its whole life
abbrev pub AreWhole : Type 0
AreWhole = (ids : Ids) (n : ℕ) (old new : SetState) (l : LineState) → line_at n old ≡ Some l → Lives ids n old new
    → (m : LineState) × (line_at n new ≡ Some m) × IsWhole n old.client l new.client m
