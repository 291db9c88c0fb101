-- The page before does not start above the key, and the one there does.
use Rattle.std.proofs.Common.{◌≤◌, length, sym, ◌∙◌, subst}
use Rattle.store_laws.proofs.Rising.{count_while-le}
use Rattle.key_pages.specs.Paged.{starts_up_to}
use Rattle.key_pages.proofs.Pages.{starts-count}
use Rattle.key_pages.proofs.Places.{not-true}
use Rattle.key_pages.proofs.look_up.is_count.Goals as goal

pub returns-then-starts_behind-clause-value : goal.returns-then-starts_behind-clause-value
returns-then-starts_behind-clause-value g c = λ t.
    starts-count c.args.key.now c.args.pages.now c.requires.ascending c.requires.held c.args.count
    (sym c.starts_behind.ensures ∙ c.if-starts_behind.true) (sym c.starts_at.ensures ∙ not-true c.starts_at.result t)

pub returns-then-starts_behind-clause-bound : goal.returns-then-starts_behind-clause-bound
returns-then-starts_behind-clause-bound g c = λ t.
    subst (λ n. n ≤ length c.args.pages.now)
    (sym (starts-count c.args.key.now c.args.pages.now c.requires.ascending c.requires.held c.args.count
    (sym c.starts_behind.ensures ∙ c.if-starts_behind.true) (sym c.starts_at.ensures ∙ not-true c.starts_at.result t)))
    (count_while-le (starts_up_to c.args.key.now) c.args.pages.now)
