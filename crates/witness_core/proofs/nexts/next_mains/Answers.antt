-- One version more, from the back.
use Rattle.std.proofs.Common.{◌∷◌, sym, ◌∙◌, ap, cond, Some, List, [], ◌++◌, ℕ, Option, reverse}
use Rattle.kv_model.specs.Keys.{same_key}
use Rattle.witness_core.specs.Walks.{next_main, next_mains}
use Rattle.witness_core.proofs.Walking.{one-more, turned}
use Rattle.witness_core.proofs.nexts.next_mains.Goals as goal

pub loop-version-preserved : goal.loop-version-preserved
loop-version-preserved c =
    let i = c.loop-version.invariant in
    let v = c.in-Some.version.now in (
      v ∷ i.0,
      one-more _ _ i.0 _ v i.1 c.in-Some.ensures.steps,
      c.in_ok-push.ensures.items
          ∙ ap (λ (ns : List (Option ℕ)). ns ++ c.in_ok-next.next ∷ []) i.2
          ∙ ap (λ (n : Option ℕ). reverse (next_mains i.0) ++ n ∷ []) (c.in_ok-next.ensures.old ∙ i.3 c.as_slice.result
          ∙ ap (λ k. next_main k i.0) c.as_slice.ensures)
          ∙ sym (turned (next_main v.key i.0) (next_mains i.0)),
      λ k. c.in_ok-next.ensures.updates.0 k ∙ (λ j. cond (same_key (c.as_slice.ensures j) k.now) (Some v.rev.main) (i.3 k j)),
    )
