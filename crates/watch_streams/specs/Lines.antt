-- The stream of a watch between two waits.
use Rattle.std.specs.Prelude.{◌≡◌, ◌≤◌, ◌+◌, ◌-◌, ◌^◌, ℕ, min, nat_le, List, [], ◌++◌, length, take, drop, Bool, true, false, Option, Result, Ok, Err, if◌then◌else◌}
use Rattle.std.specs.Io.KnownBytes.{Appends, Keeps}
use Rattle.http_reply.specs.Counts.{one_more}
use Rattle.http_reply.specs.Replies.{last_chunk}
use Rattle.kv_model.specs.Lists.{is_empty}

-- the number of its watch and of its connection, the bytes that its writer is known to hold and the failures that it
-- tells, the bytes that have not gone out, whether it has ended, and how often it was looked at since its writer took a byte
pub record LineState : Type 0 where
  pub number : ℕ
  pub call : ℕ
  pub wrote : Option (List ℕ)
  pub failures : ℕ
  pub unsent : List ℕ
  pub ended : Bool
  pub looks : ℕ

-- as it begins, with such a writer
abbrev pub begun_at : ℕ → ℕ → Option (List ℕ) → LineState
begun_at number call wrote = record { number = number; call = call; wrote = wrote; failures = 0; unsent = []; ended = false; looks = 0 }

-- all has gone out
abbrev pub is_out : LineState → Bool
is_out l = is_empty l.unsent

abbrev pub with_unsent : List ℕ → LineState → LineState
with_unsent text l = record l { unsent = text }

-- its last chunk is to go out behind what has not, if it has not ended yet
abbrev pub closed : LineState → LineState
closed l = if l.ended then l else record l { unsent = l.unsent ++ last_chunk; ended = true }

-- it was looked at once more, where anything has not gone out; the count stops at the greatest number of 32 bits
abbrev pub aged : LineState → LineState
aged l = if is_out l then l else record l { looks = min (l.looks + 1) (2 ^ 32 - 1) }

-- its writer took no byte for so many looks
abbrev pub is_stale : ℕ → LineState → Bool
is_stale looks l = nat_le looks l.looks

-- one write: it took so many of the bytes that had not gone out; or it failed, or took none, which its writer counts, and
-- nothing has changed
abbrev pub Sends : LineState → LineState → Result ℕ Bool → Type 0
Sends old new (Ok n) = (n ≤ length old.unsent) × Appends old.wrote new.wrote (take n old.unsent)
    × (new ≡ record old { wrote = new.wrote; unsent = drop n old.unsent; looks = 0 })
Sends old new (Err blocked) = Keeps old.wrote new.wrote
    × (new ≡ record old { wrote = new.wrote; failures = one_more old.failures })
