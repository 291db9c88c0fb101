use Rattle.std.proofs.Common.{◌≡◌, ◌≤◌, ◌+◌, ◌-◌, length}
use Rattle.http_reply.specs.Counts.{failures_of, inner_of, reads_of}
use Rattle.http_input.specs.Inputs.{Extends, Took}
use Rattle.http_input.proofs.input.Input.next_head.Given as goal

-- no byte was lost, each read gave one, and there was one for each byte of the limit at most
abbrev pub invariant-heads : goal.invariant-heads
invariant-heads g l = record {
  kept : Extends l.fn.self l.self;
  took : Took (g.R.Read.remaining (inner_of l.fn.r)) (g.R.Read.remaining (inner_of l.r)) l.fn.self l.self;
  failures : failures_of l.r ≡ failures_of l.fn.r;
  each : reads_of l.r + length l.fn.self ≤ reads_of l.fn.r + length l.self;
  most : reads_of l.r ≤ reads_of l.fn.r + 8192;
}

abbrev pub decreases-heads : goal.decreases-heads
decreases-heads g l = 8192 - length l.self
