use Rattle.std.proofs.Common.{◌≡◌, arith, ap, length}
use Rattle.std.proofs.lemmas.Bool.Decides.{nat_tests}
use Rattle.http_peer.proofs.Outs.{goes_on}
use Rattle.http_peer.proofs.unsent.Unsent.send.Goals as goal

pub returns-in-Err-clause-out : goal.returns-in-Err-clause-out
returns-in-Err-clause-out g c = goes_on _ _ _ _ _ _ c.loop.invariant.0 c.in-Err.ensures.out

pub loop-preserved : goal.loop-preserved
loop-preserved g c = (
  goes_on _ _ _ _ _ _ c.loop.invariant.0 c.in-Ok-true.ensures.out,
  λ none.
      let empty : length c.loop.self ≡ 0 = ap length (c.loop.invariant.1 none).0 in
      absurd (grind (arith, nat_tests)),
)
