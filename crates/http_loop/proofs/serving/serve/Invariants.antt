use Rattle.std.proofs.Common.{◌-◌, ◌≡◌, ◌≤◌}
use Rattle.http_reply.specs.Counts.{failures_of, inner_of}
use Rattle.http_loop.specs.Answered.{IsAnswered}
use Rattle.http_loop.specs.Turned.{SoFar, progress}
use Rattle.http_loop.proofs.serving.serve.Given as goal

-- whatever answers the bytes that are left ends the answering of all
abbrev pub invariant-loop-count : goal.invariant-loop-count
invariant-loop-count g l = (l.count ≤ l.fn.limit) × (failures_of l.r ≡ failures_of l.fn.r) × (failures_of l.w ≡ failures_of l.fn.w)
    × SoFar _ (IsAnswered _ (g.A.Answering.Answers l.fn.by) (g.A.Answering.Tells l.fn.by) (g.A.Answering.Finishes l.fn.by)) l.count
    (progress l.fn.state (g.R.Read.remaining (inner_of l.fn.r)) l.fn.input (g.W.Write.contents (inner_of l.fn.w)))
    (progress l.state (g.R.Read.remaining (inner_of l.r)) l.input (g.W.Write.contents (inner_of l.w)))

abbrev pub decreases-loop-count : goal.decreases-loop-count
decreases-loop-count g l = l.fn.limit - l.count
