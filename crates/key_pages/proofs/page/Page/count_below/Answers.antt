-- A place that was looked at is how many are below.
use Rattle.std.proofs.Common.{◌≤◌, length, sym, subst}
use Rattle.store_laws.proofs.Rising.{count_while-le}
use Rattle.key_pages.specs.Paged.{is_below}
use Rattle.key_pages.proofs.page.Page.count_below.Goals as goal

pub returns-then-is_place-clause-bound : goal.returns-then-is_place-clause-bound
returns-then-is_place-clause-bound g c =
    subst (λ n. n ≤ length c.args.self.now) (sym (c.is_place.ensures c.if-is_place.true)) (count_while-le (is_below c.args.key.now) c.args.self.now)
