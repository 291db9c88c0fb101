-- What a range covers from a key of it on is what its stretch does.
use Rattle.std.proofs.Common.{sym, ◌∙◌, subst}
use Rattle.kv_model.specs.Keys.{in_range}
use Rattle.swept_ranges.specs.Walks.{IsAhead}
use Rattle.swept_ranges.proofs.Sweeping.{covered-ahead}
use Rattle.swept_ranges.proofs.swept.covering.Goals as goal

pub returns : goal.returns
returns c = subst (IsAhead (in_range c.args.range.now) c.args.from.now) (sym c.covered_up_to.ensures)
    (covered-ahead c.in-Some.stretch (in_range c.args.range.now) c.args.from.now c.in-Some.ensures
    (sym c.contains.ensures ∙ c.if-not-contains.false))
