-- What each ranking is, this one is.
use Rattle.std.proofs.Common.{arith, sym, subst}
use Rattle.live_keys.specs.Ranked.{IsRanking}
use Rattle.store_laws.proofs.Rising.{each-at}
use Rattle.live_keys.proofs.ranking.ranking_of.Goals as goal

pub returns-then-eq-2-clause-listed : goal.returns-then-eq-2-clause-listed
returns-then-eq-2-clause-listed c = λ over each.
    subst (IsRanking over) (sym c.ranking-item.is)
    (each-at (IsRanking over) c.args.rankings.now c.loop-ranking.ranking-index c.ranking-item.result each (omega arith))
