use Rattle.std.proofs.Common.{length, take, ◌-◌, ◌≡◌, ◌≤◌, ℕ}
use Rattle.std.specs.Io.KnownBytes.{Appends}
use Rattle.http_reply.specs.Counts.{failures_of, inner_of}
use Rattle.http_reply.proofs.sending.write_text.Given as goal

abbrev pub invariant-loop-sent : goal.invariant-loop-sent
invariant-loop-sent g l = (l.sent ≤ length l.text) × Appends (g.W.Write.contents (inner_of l.fn.w)) (g.W.Write.contents (inner_of l.w)) (take l.sent l.text)
    × (failures_of l.w ≡ failures_of l.fn.w)

abbrev pub decreases-loop-sent : goal.decreases-loop-sent
decreases-loop-sent g l = length l.text - l.sent
