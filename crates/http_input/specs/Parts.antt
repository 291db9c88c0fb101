-- What the two parts of reading a request say: its head, and its body. No public clause cites this module.
use Rattle.std.specs.Prelude.{◌≡◌, ℕ, ◌<◌, ◌+◌, ◌≤◌, List, [], length, Option, None, Some, Result, Ok, Err, ⊤}
use Rattle.std.specs.Io.KnownBytes.{IsAtEnd}
use Rattle.httparse.specs.Grammar.{HasNoRequest, MayBecomeRequest}
use Rattle.http_head.specs.declared.head.Fault.{Fault}
use Rattle.http_head.specs.declared.head.Fault.TheVariants as fault
use Rattle.http_head.specs.declared.head.Head.{Head}
use Rattle.http_head.specs.declared.head.Look.{Look}
use Rattle.http_head.specs.declared.head.Look.TheVariants as look
use Rattle.http_head.specs.Heads.{Names, bad_head, bad_length, most_head, too_long, window}
use Rattle.http_head.specs.Looks.{fault_view}
use Rattle.http_head.specs.Requests.{EndsInHead}
use Rattle.http_reply.specs.declared.front.Front.{Front}
use Rattle.http_reply.specs.declared.front.Front.TheVariants as front
use Rattle.http_input.specs.Inputs.{HasHead, IsWhole}

-- what a look at the bytes says
abbrev pub Sees : List ℕ → Look → Type 0
Sees pending (look.Head x) = HasHead pending x
Sees pending look.More = (length pending < most_head) × HasNoRequest pending × MayBecomeRequest pending
Sees pending (look.Fault f) = Names (fault_view f) (window pending)

-- the same fault, as the end of a connection
abbrev pub front_of : Fault → Front
front_of fault.Head = front.Head
front_of fault.Length = front.Length
front_of fault.TooLong = front.TooLong

-- the head
abbrev pub HeadCame : Option (List ℕ) → List ℕ → Result (Option Head) Front → Type 0
HeadCame left pending (Ok (Some x)) = HasHead pending x
HeadCame left pending (Ok None) = (pending ≡ []) × IsAtEnd left
HeadCame left pending (Err front.Head) = Names bad_head (window pending)
HeadCame left pending (Err front.Length) = Names bad_length (window pending)
HeadCame left pending (Err front.TooLong) = Names too_long (window pending)
HeadCame left pending (Err front.Read) = ⊤
HeadCame left pending (Err front.End) = EndsInHead pending × IsAtEnd left
HeadCame left pending (Err front.Memory) = 16384 ≤ length pending
HeadCame left pending (Err _) = ⊥

-- the body of the head whose places are x
abbrev pub BodyCame : {T : Type 0} → Option (List ℕ) → List ℕ → Head → Result T Front → Type 0
BodyCame left pending x (Ok u) = IsWhole pending x
BodyCame left pending x (Err front.Read) = ⊤
BodyCame left pending x (Err front.End) = HasHead pending x × (length pending < x.len + x.body) × IsAtEnd left
BodyCame left pending x (Err front.Memory) = 16384 ≤ length pending
BodyCame left pending x (Err _) = ⊥

-- the reads that gave no byte
abbrev pub last_read : {T : Type 0} → Result T Front → ℕ
last_read (Ok u) = 0
last_read (Err f) = 1
