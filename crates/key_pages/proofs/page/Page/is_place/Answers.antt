-- The key before is below it, and the one there is not.
use Rattle.std.proofs.Common.{sym, ◌∙◌}
use Rattle.key_pages.proofs.Places.{place, not-true}
use Rattle.key_pages.proofs.page.Page.is_place.Goals as goal

pub returns-then-is_behind : goal.returns-then-is_behind
returns-then-is_behind g c = λ t.
    place c.args.key.now c.args.self.now c.requires c.args.index (sym c.is_behind.ensures ∙ c.if-is_behind.true)
    (sym c.is_below_at.ensures ∙ not-true c.is_below_at.result t)
