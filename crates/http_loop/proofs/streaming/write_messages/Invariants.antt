use Rattle.std.proofs.Common.{◌≡◌}
use Rattle.http_reply.specs.Counts.{failures_of, inner_of}
use Rattle.http_loop.specs.Texts.{Grows}
use Rattle.http_loop.proofs.Chunks.{Chunks}
use Rattle.http_loop.proofs.streaming.write_messages.Given as goal

-- whatever messages follow, they follow those so far
abbrev pub invariant-loop-left : goal.invariant-loop-left
invariant-loop-left g l = (failures_of l.w ≡ failures_of l.fn.w)
    × Grows (g.W.Write.contents (inner_of l.fn.w)) (g.W.Write.contents (inner_of l.w)) (Chunks _ (g.A.Answering.Tells l.fn.by) l.fn.number l.left l.fn.state l.state)

abbrev pub decreases-loop-left : goal.decreases-loop-left
decreases-loop-left g l = l.left
