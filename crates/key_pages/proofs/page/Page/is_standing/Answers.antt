-- It is the place of the key.
use Rattle.std.proofs.Common.{◌≤◌, length, sym, ◌∙◌, subst}
use Rattle.store_laws.proofs.Rising.{count_while-le}
use Rattle.key_pages.specs.Paged.{is_below}
use Rattle.key_pages.proofs.Places.{there-place}
use Rattle.key_pages.proofs.page.Page.is_standing.Goals as goal

pub returns-clause-place : goal.returns-clause-place
returns-clause-place g c = λ t.
    there-place c.args.key.now c.args.self.now c.requires c.args.index (sym c.is_there.ensures ∙ t)

pub returns-clause-bound : goal.returns-clause-bound
returns-clause-bound g c = λ t.
    subst (λ n. n ≤ length c.args.self.now)
    (sym (there-place c.args.key.now c.args.self.now c.requires c.args.index (sym c.is_there.ensures ∙ t)))
    (count_while-le (is_below c.args.key.now) c.args.self.now)
