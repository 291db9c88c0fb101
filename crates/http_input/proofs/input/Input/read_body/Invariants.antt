use Rattle.std.proofs.Common.{◌≡◌, ◌≤◌, ◌+◌, ◌-◌, length}
use Rattle.http_reply.specs.Counts.{failures_of, inner_of, reads_of}
use Rattle.http_input.specs.Inputs.{Extends, HasHead, Took}
use Rattle.http_input.proofs.input.Input.read_body.Given as goal

-- the same, and the head stays
abbrev pub invariant-loop-self : goal.invariant-loop-self
invariant-loop-self g l = record {
  kept : Extends l.fn.self l.self;
  took : Took (g.R.Read.remaining (inner_of l.fn.r)) (g.R.Read.remaining (inner_of l.r)) l.fn.self l.self;
  head : HasHead l.self l.fn.head;
  failures : failures_of l.r ≡ failures_of l.fn.r;
  each : reads_of l.r + length l.fn.self ≤ reads_of l.fn.r + length l.self;
  most : reads_of l.r ≤ reads_of l.fn.r + 1572864;
}

abbrev pub decreases-loop-self : goal.decreases-loop-self
decreases-loop-self g l = l.whole - length l.self
