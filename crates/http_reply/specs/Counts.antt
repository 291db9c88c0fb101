-- What a counted reader or writer tells.
use Rattle.std.specs.Prelude.{ℕ, ◌+◌, ◌-◌, ◌^◌, min, nat_lt, Bool, false, Result, Ok, Err}
use Rattle.http_reply.specs.declared.counted.Counted.{Counted}

-- the reader or writer
abbrev pub inner_of : {T : Type 0} → Counted T → T
inner_of c = c.inner

-- the reads that were made, those that failed among them
abbrev pub reads_of : {T : Type 0} → Counted T → ℕ
reads_of c = c.reads

-- the calls that failed, and the writes that took nothing
abbrev pub failures_of : {T : Type 0} → Counted T → ℕ
failures_of c = c.failures

-- a count that is raised by one, and stops at the greatest number of 64 bits
abbrev pub one_more : ℕ → ℕ
one_more n = min (n + 1) (2 ^ 64 - 1)

-- a write that took at least one byte
abbrev pub takes_some : {E : Type 0} → Result ℕ E → Bool
takes_some (Ok n) = nat_lt 0 n
takes_some (Err e) = false
