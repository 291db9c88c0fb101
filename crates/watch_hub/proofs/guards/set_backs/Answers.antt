use Rattle.std.proofs.Common.{◌<◌, ◌∙◌, subst, sym}
use Rattle.std.proofs.lemmas.List.{length-set}
use Rattle.watch_hub.proofs.Guarding.{backs-more, far-more}
use Rattle.watch_hub.proofs.guards.set_backs.Goals as goal

pub loop-index-preserved : goal.loop-index-preserved
loop-index-preserved c =
    let bs = c.loop-index.backs.items in
    let i = c.loop-index.index in
    let count = c.loop-index.invariant.0 in (
      length-set bs i _ ∙ count,
      backs-more c.args.guards.now bs i _ c.loop-index.invariant.1 c.back_of.ensures.back (subst (λ n. i < n) (sym count) c.loop-index-test.true),
      far-more c.args.guards.now bs i _ c.loop-index.invariant.2 c.back_of.ensures.far (subst (λ n. i < n) (sym count) c.loop-index-test.true),
    )
