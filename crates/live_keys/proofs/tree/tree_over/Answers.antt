-- Each level has half as many as the one below it, and lies over its pairs.
use Rattle.std.proofs.Common.{◌≡◌, ◌<◌, ◌∙◌, ap, arith, length, nat_eq, refl, rules, true, false}
use Rattle.std.proofs.lemmas.Bool.Decides.{nat_tests}
use Rattle.std.proofs.lemmas.List.{nil_from_length}
use Rattle.live_keys.specs.Extremes.{joined, of_two}
use Rattle.live_keys.specs.Parts.{pairs_by}
use Rattle.live_keys.proofs.Levels.{level-less, level-more, levels-end}
use Rattle.live_keys.proofs.tree.tree_over.Goals as goal

pub loop-alloc-smaller : goal.loop-alloc-smaller
loop-alloc-smaller c =
    let some : nat_eq (length c.loop-alloc.level.items) 0 ≡ false = search rules in
    let more : 0 < length c.loop-alloc.level.items = grind (arith, nat_tests, some) in
    level-less c.args.field c.loop-alloc.level.items c.in_ok-above.above.items
    (c.in_ok-above.ensures ∙ ap (pairs_by (joined c.args.field)) c.deref.ensures.value) more

pub loop-alloc-preserved : goal.loop-alloc-preserved
loop-alloc-preserved c =
    level-more c.args.field (pairs_by (of_two c.args.field) c.args.kvs.now) c.in_ok-above.above.items c.loop-alloc.level c.loop-alloc.levels.items
    c.push.new.self.items c.loop-alloc.invariant (c.in_ok-above.ensures ∙ ap (pairs_by (joined c.args.field)) c.deref.ensures.value)
    c.in_ok-push.ensures.items

pub returns : goal.returns
returns c =
    let none : nat_eq (length c.loop-alloc.level.items) 0 ≡ true = search rules in (
      refl,
      levels-end c.args.field (pairs_by (of_two c.args.field) c.args.kvs.now) c.loop-alloc.level.items c.loop-alloc.levels.items
          c.loop-alloc.invariant (nil_from_length c.loop-alloc.level.items (grind (arith, nat_tests, none))),
    )
