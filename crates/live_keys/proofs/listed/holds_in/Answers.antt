-- A part of the list is what is live in the range.
use Rattle.std.proofs.Common.{◌∙◌, arith}
use Rattle.live_keys.proofs.Within.{told-none, told-part}
use Rattle.live_keys.proofs.listed.holds_in.Goals as goal

pub returns-clause-hold : goal.returns-clause-hold
returns-clause-hold c =
    told-part c.args.compare.now c.args.view.now c.args.listed.now c.part_of-part.result c.deref.result.now c.deref-2.result.now
    c.deref.ensures.value c.deref-2.ensures.value c.requires c.part_of-part.ensures.exact (omega (arith, c.if-part.false))
    c.part_of-part.ensures.inside.inside c.all_in_part.result c.all_in_part.ensures.all

pub returns-then-part-clause-hold : goal.returns-then-part-clause-hold
returns-then-part-clause-hold c =
    c.holds_of.ensures
    ∙ told-none c.args.compare.now c.args.view.now c.args.listed.now c.part_of-part.result c.deref.result.now c.deref.ensures.value c.requires
    c.part_of-part.ensures.exact c.if-part.true
