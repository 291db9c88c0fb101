use Rattle.std.proofs.Common.{◌≡◌, []}
use Rattle.http_peer.specs.Sent.{GoesOut}
use Rattle.http_peer.proofs.unsent.Unsent.send.Given as goal

abbrev pub invariant-loop : goal.invariant-loop
invariant-loop g l = GoesOut (g.W.Write.contents l.fn.w) (g.W.Write.contents l.w) l.fn.self l.self × (l.fn.self ≡ [] → (l.self ≡ []) × (l.w ≡ l.fn.w))
