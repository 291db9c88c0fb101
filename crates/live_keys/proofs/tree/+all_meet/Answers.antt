-- A part of a level is told by its ends, and by what is over its pairs.
use Rattle.std.proofs.Common.{◌≡◌, ◌&&◌, List, ap, arith, length, refl, subst}
use Rattle.std.specs.List.{list_all}
use Rattle.live_keys.specs.declared.extremes.Extremes.{Extremes}
use Rattle.live_keys.specs.Extremes.{meets}
use Rattle.live_keys.specs.Fields.{field_of}
use Rattle.live_keys.specs.Parts.{between, of_part, paired, paired_from}
use Rattle.live_keys.proofs.Levels.{ends-met, rest-levels, rest-room}
use Rattle.live_keys.proofs.tree.+all_meet.Goals as goal

pub all_meet-requires : goal.all_meet-requires
all_meet-requires t c =
    let fewer = ap length c.in-Some.ensures.cases.0 in (
      omega (arith, fewer, c.decreases),
      (
        rest-levels (field_of c.args.compare.now.operand) c.args.part c.halved.result c.args.levels.now c.in-Some.above.now c.in-Some.level.now
            c.in-Some.ensures.cases.0 c.requires.levels,
        rest-room (field_of c.args.compare.now.operand) c.args.part c.halved.result c.args.levels.now c.in-Some.above.now c.in-Some.level.now
            c.in-Some.ensures.cases.0 c.requires.levels c.requires.inside c.halved.ensures,
      ),
    )

pub returns-else-not-last_meets : goal.returns-else-not-last_meets
returns-else-not-last_meets t c =
    let cmp = c.args.compare.now in
    let p = c.args.part in
    ends-met cmp p c.halved.result c.args.levels.now c.in-Some.above.now c.in-Some.level.now c.in-Some.level.now.items
    c.first_meets.result c.last_meets.result c.all_meet.result c.in-Some.ensures.cases.0 refl c.requires.levels c.requires.inside c.halved.ensures
    (subst (λ (es : List Extremes). list_all (meets cmp) (of_part p es) ≡ (c.first_meets.result && list_all (meets cmp) (between (paired_from p) p.to es)))
    c.deref.ensures.value c.first_meets.ensures)
    (subst (λ (es : List Extremes). list_all (meets cmp) (between (paired_from p) p.to es) ≡ (c.last_meets.result && list_all (meets cmp) (paired p es)))
    c.deref-in-Some.ensures.value c.last_meets.ensures)
    c.if-not-first_meets.false c.if-not-last_meets.false c.all_meet.ensures
