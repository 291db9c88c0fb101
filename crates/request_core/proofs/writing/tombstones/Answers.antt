-- One tombstone more.
use Rattle.std.proofs.Common.{◌++◌, ◌∷◌, [], sym, ◌∙◌, add-one, arith}
use Rattle.request_core.proofs.Kept.{tombstones-more}
use Rattle.request_core.proofs.writing.tombstones.Goals as goal

pub loop-sub-preserved : goal.loop-sub-preserved
loop-sub-preserved c = rw add-one (c.in_ok-push.ensures.items
    ∙ (λ i. c.loop-sub.invariant i ++ c.in_ok-tombstone.ensures i ∷ [])
    ∙ sym (tombstones-more c.args.main 0 c.loop-sub.sub c.args.live.now c.loop-sub.sub _ (omega arith) c.loop-sub-test.true))
