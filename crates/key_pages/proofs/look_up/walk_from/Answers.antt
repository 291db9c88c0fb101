-- The pages before that on which the key has its place are passed over, and on it the keys below it.
use Rattle.std.proofs.Common.{◌≡◌, ◌++◌, [], sym, ◌∙◌, ap, subst}
use Rattle.std.proofs.lemmas.List.{nil_from_length}
use Rattle.key_pages.specs.Pairs.{IsAscending}
use Rattle.key_pages.specs.Paged.{flat}
use Rattle.key_pages.proofs.Pages.{from-page, left_from, walks-from}
use Rattle.key_pages.proofs.look_up.walk_from.Goals as goal

pub pairs_from-requires : goal.pairs_from-requires
pairs_from-requires g c =
    (walks-from c.args.key.now c.args.pages.now c.in-Some.page.now c.in-Some.later.now c.requires.ascending c.requires.held
    (sym c.pages_from.ensures ∙ c.in-Some.ensures.cases.0)).page

pub of-requires-clause-ascending : goal.of-requires-clause-ascending
of-requires-clause-ascending g c =
    subst (λ es. IsAscending (es ++ flat c.in-Some.later.now)) (sym c.pairs_from.ensures)
    (walks-from c.args.key.now c.args.pages.now c.in-Some.page.now c.in-Some.later.now c.requires.ascending c.requires.held
    (sym c.pages_from.ensures ∙ c.in-Some.ensures.cases.0)).ascending

pub returns-in-Some : goal.returns-in-Some
returns-in-Some g c =
    c.of.ensures ∙ ap (λ es. es ++ flat c.in-Some.later.now) c.pairs_from.ensures
    ∙ (walks-from c.args.key.now c.args.pages.now c.in-Some.page.now c.in-Some.later.now c.requires.ascending c.requires.held
    (sym c.pages_from.ensures ∙ c.in-Some.ensures.cases.0)).value

pub returns-in-None : goal.returns-in-None
returns-in-None g c =
    let none : c.pages_from.result.now ≡ [] = nil_from_length c.pages_from.result.now c.in-None.ensures.cases in
    c.of-in-None.ensures ∙ ap (left_from c.args.key.now) (sym (sym c.pages_from.ensures ∙ none))
    ∙ from-page c.args.key.now c.args.pages.now c.requires.ascending c.requires.held
