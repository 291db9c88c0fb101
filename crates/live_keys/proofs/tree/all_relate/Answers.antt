-- A part of the list is told by its ends, and by what is over its pairs.
use Rattle.std.proofs.Common.{◌≤◌, ◌∙◌, ap, length, sym, subst, List, Vec}
use Rattle.std.specs.List.{list_all}
use Rattle.std.specs.declared.alloc.Global.{Global}
use Rattle.live_keys.specs.declared.extremes.Extremes.{Extremes}
use Rattle.live_keys.specs.declared.part.Part.{Part}
use Rattle.live_keys.specs.Extremes.{lowest, meets}
use Rattle.live_keys.specs.Parts.{of_part}
use Rattle.live_keys.proofs.Levels.{ends-passed, tree-room}
use Rattle.live_keys.proofs.tree.all_relate.Goals as goal

pub all_meet-requires-clause-inside : goal.all_meet-requires-clause-inside
all_meet-requires-clause-inside c =
    subst (λ (ls : List (Vec Extremes Global)). c.halved.result.to ≤ length (lowest ls)) (sym c.deref.ensures.value)
    (subst (λ (q : Part). q.to ≤ length (lowest c.args.tree.now.levels.items)) (sym c.halved.ensures)
    (tree-room c.args.compare.now c.args.part c.args.kvs.now c.args.tree.now c.requires.tree c.requires.inside.inside))

pub returns : goal.returns
returns c = λ other.
    ends-passed c.args.compare.now c.args.part c.halved.result c.args.kvs.now c.args.tree.now c.first_relates.result c.last_relates.result
    c.all_meet.result other c.requires.field c.requires.tree c.requires.inside.inside c.halved.ensures c.first_relates.ensures
    c.last_relates.ensures c.if-not-first_relates.false c.if-not-last_relates.false
    (c.all_meet.ensures ∙ ap (λ ls. list_all (meets c.args.compare.now) (of_part c.halved.result (lowest ls))) c.deref.ensures.value)
