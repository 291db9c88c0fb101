use Rattle.std.proofs.Common.{◌++◌, ◌≡◌, ◌≤◌, drop, vec_capacity, ℕ}
use Rattle.http_reply.specs.Sends.{joined}
use Rattle.http_reply.proofs.sending.put.Given as goal

abbrev pub invariant-loop-piece : goal.invariant-loop-piece
invariant-loop-piece l = (joined l.pieces ≡ l.text.items ++ joined (drop l.piece-index l.pieces)) × (vec_capacity l.fn.text ≤ vec_capacity l.text)
