-- Where the next key is not below the other none is.
use Rattle.std.proofs.Common.{sym, ◌∙◌, ap, subst}
use Rattle.key_pages.specs.Pairs.{IsAscending, below_key}
use Rattle.key_pages.proofs.Pairs.{none-below}
use Rattle.key_pages.proofs.walk.Walk.next_below.Goals as goal

pub returns-else-is_below : goal.returns-else-is_below
returns-else-is_below g c =
    ap (below_key c.args.end.now) c.in-Some.ensures.next
    ∙ none-below c.args.end.now (c.in-Some.key.now, c.in-Some.value.now) c.next.new.self
    (subst IsAscending c.in-Some.ensures.next c.in-Some.ensures.ascending) (sym c.is_below.ensures ∙ c.if-is_below.false)
