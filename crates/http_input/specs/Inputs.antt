-- What is read of a connection's bytes: requests, or why there is none (RFC 9112).
use Rattle.std.specs.Prelude.{◌≡◌, ℕ, ◌+◌, ◌≤◌, List, [], ◌++◌, length, take, drop, Option, None, Some, Result, Ok, Err}
use Rattle.std.specs.Prelude.{⊤}
use Rattle.std.specs.Io.KnownBytes.{IsAtEnd}
use Rattle.httparse.specs.Grammar.{RequestHead}
use Rattle.httparse.specs.Spans.{span_bytes}
use Rattle.http_head.specs.declared.head.Head.{Head}
use Rattle.http_head.specs.Heads.{Names, bad_head, bad_length, too_long, most_body, most_head, window}
use Rattle.http_head.specs.Looks.{IsHead}
use Rattle.http_head.specs.Requests.{Asked, IsCut, ReadsAsked}
use Rattle.http_reply.specs.Counts.{one_more}
use Rattle.http_reply.specs.declared.front.Front.{Front}
use Rattle.http_reply.specs.declared.front.Front.TheVariants as front
use Rattle.http_input.specs.declared.input.Request.{Request}

-- ---- a request in the bytes that were read

-- the bytes begin with the head whose places are x, within the limits of heads and bodies
pub record HasHead (bytes : List ℕ) (x : Head) : Type 0 where
  pub head : RequestHead
  pub is : IsHead bytes x head
  pub len : x.len ≤ most_head
  pub body : x.body ≤ most_body

-- and its body follows whole
abbrev pub IsWhole : List ℕ → Head → Type 0
IsWhole bytes x = HasHead bytes x × (x.len + x.body ≤ length bytes)

-- the request that stands at these places
abbrev pub asked_of : List ℕ → Head → Asked
asked_of bytes x = record {
  method = span_bytes bytes x.method;
  target = span_bytes bytes x.target;
  body = take x.body (drop x.len bytes);
  close = x.close;
}

-- a request that is lent, as its bytes
abbrev pub request_view : Request → Asked
request_view r = record { method = r.method.now; target = r.target.now; body = r.body.now; close = r.close }

-- ---- what reading leaves
-- pending: the bytes that were read and not yet used; left: those that the reader still has, where it tells them

-- q goes on where p ends: what waited stays, and what was read stands behind it
pub record Extends (p q : List ℕ) : Type 0 where
  pub more : List ℕ
  pub is : q ≡ p ++ more

-- no byte is lost, and none is made
abbrev pub Took : Option (List ℕ) → Option (List ℕ) → List ℕ → List ℕ → Type 0
Took None left' pending pending' = ⊤
Took (Some left) None pending pending' = ⊥
Took (Some left) (Some left') pending pending' = pending ++ left ≡ pending' ++ left'

-- what is so of the bytes that were read
abbrev pub Came : Option (List ℕ) → List ℕ → Result (Option Head) Front → Type 0
Came left pending (Ok (Some x)) = IsWhole pending x
Came left pending (Ok None) = (pending ≡ []) × IsAtEnd left
Came left pending (Err front.Head) = Names bad_head (window pending)
Came left pending (Err front.Length) = Names bad_length (window pending)
Came left pending (Err front.TooLong) = Names too_long (window pending)
Came left pending (Err front.Read) = ⊤
Came left pending (Err front.End) = IsCut pending × IsAtEnd left
Came left pending (Err front.Memory) = 16384 ≤ length pending
Came left pending (Err _) = ⊥

-- what is so of all bytes that were to come: they are this request and then others, or it is known why they are none
abbrev pub Says : List ℕ → List ℕ → List ℕ → Result (Option Head) Front → Type 0
Says bytes pending left (Ok (Some x)) = IsWhole pending x
    × ReadsAsked bytes (asked_of pending x) (drop (x.len + x.body) pending ++ left)
Says bytes pending left (Ok None) = (bytes ≡ []) × (pending ≡ []) × (left ≡ [])
Says bytes pending left (Err front.Head) = Names bad_head (window bytes)
Says bytes pending left (Err front.Length) = Names bad_length (window bytes)
Says bytes pending left (Err front.TooLong) = Names too_long (window bytes)
Says bytes pending left (Err front.Read) = ⊤
Says bytes pending left (Err front.End) = IsCut bytes
Says bytes pending left (Err front.Memory) = 16384 ≤ length bytes
Says bytes pending left (Err _) = ⊥

-- the same, where the reader tells its bytes
abbrev pub Tells : Option (List ℕ) → Option (List ℕ) → List ℕ → List ℕ → Result (Option Head) Front → Type 0
Tells None left' pending pending' r = ⊤
Tells (Some left) None pending pending' r = ⊥
Tells (Some left) (Some left') pending pending' r = Says (pending ++ left) pending' left' r

-- ---- what a counted reader then tells

-- its failures: one more where a read failed, and no other
abbrev pub failures_at : Front → ℕ → ℕ
failures_at front.Read failures = one_more failures
failures_at _ failures = failures

abbrev pub failures_after_read : {T : Type 0} → Result T Front → ℕ → ℕ
failures_after_read (Ok x) failures = failures
failures_after_read (Err f) failures = failures_at f failures

-- the reads that gave no byte: none before a request, and else the last one, where it was made
abbrev pub empty_reads : Result (Option Head) Front → ℕ
empty_reads (Ok (Some x)) = 0
empty_reads _ = 1
