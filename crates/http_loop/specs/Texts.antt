-- What goes out of a text that is written, and how that ends.
use Rattle.std.specs.Prelude.{◌≡◌, ℕ, ◌+◌, ◌<◌, List, [], length, take, Bool, true, false, Option, Result, Ok, Err, ⊤}
use Rattle.std.specs.Io.KnownBytes.{Appends}
use Rattle.http_head.specs.Heads.{Fault, bad_head, bad_length, too_long}
use Rattle.http_reply.specs.declared.front.Front.{Front}
use Rattle.http_reply.specs.declared.front.Front.TheVariants as front
use Rattle.http_reply.specs.Replies.{refusal_bytes}
use Rattle.http_reply.specs.Sends.{failures_after}
use Rattle.http_loop.specs.declared.writing.Turn.{Turn}
use Rattle.http_loop.specs.declared.writing.Turn.TheVariants as turn

-- what goes out of a text: all of it, and then the connection is closed or not; or exactly the counted beginning, where
-- a write failed; or nothing, where no memory was found to lay it out, which a text of at most 1,024 bytes never wants
abbrev pub IsSent : Bool → List ℕ → List ℕ → Result Bool Front → Type 0
IsSent close text out (Ok b) = (b ≡ close) × (out ≡ text)
IsSent close text out (Err (front.Write n)) = (n < length text) × (out ≡ take n text)
IsSent close text out (Err front.Memory) = (1024 < length text) × (out ≡ [])
IsSent close text out (Err _) = ⊥

-- what a writer is known to hold grew by such bytes
pub record Grows (old new : Option (List ℕ)) (Are : List ℕ → Type 0) : Type 0 where
  pub out : List ℕ
  pub wrote : Appends old new out
  pub are : Are out

-- a text was written, as far as it was
abbrev pub Writes : Bool → List ℕ → Option (List ℕ) → Option (List ℕ) → Result Bool Front → Type 0
Writes close text c c' r = Grows c c' (λ out. IsSent close text out r)

-- ---- ends

abbrev pub front_of : Fault → Front
front_of bad_head = front.Head
front_of bad_length = front.Length
front_of too_long = front.TooLong

-- a refusal ends the connection with its fault, or with what cut its reply
abbrev pub end_of : Front → Result Bool Front → Front
end_of f (Ok b) = f
end_of f (Err e) = e

-- the reply that tells why a request is not read was written, as far as it was, and the connection ends so
pub record Declines (f : Front) (c c' : Option (List ℕ)) (failures failures' : ℕ) (end : Front) : Type 0 where
  pub sending : Result Bool Front
  pub wrote : Writes true (refusal_bytes f) c c' sending
  pub failed : failures' ≡ failures_after sending failures
  pub ends : end ≡ end_of f sending

-- an end that comes of writing
abbrev pub IsOfWriting : Front → Type 0
IsOfWriting front.Memory = ⊤
IsOfWriting (front.Write n) = ⊤
IsOfWriting _ = ⊥

-- a connection ends so, and no server does
abbrev pub IsOfConnection : Front → Type 0
IsOfConnection front.Spawn = ⊥
IsOfConnection front.Accept = ⊥
IsOfConnection front.Unclosed = ⊥
IsOfConnection _ = ⊤

-- so many replies more
abbrev pub replies_more : ℕ → Result ℕ Front → Result ℕ Front
replies_more n (Ok m) = Ok (n + m)
replies_more n (Err f) = Err f

-- what a turn is whose request was answered so
abbrev pub turn_of : Result Bool Front → Result Turn Front
turn_of (Ok true) = Ok turn.Last
turn_of (Ok false) = Ok turn.More
turn_of (Err f) = Err f
