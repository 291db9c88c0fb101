-- The page decides on which the key has its place.
use Rattle.std.proofs.Common.{sym, ◌∙◌, ap}
use Rattle.std.specs.List.{slice_get}
use Rattle.key_pages.proofs.Pages.{ascending-some, found-at, found_in}
use Rattle.key_pages.proofs.look_up.get.Goals as goal

pub get-requires : goal.get-requires
get-requires g c = ascending-some c.args.pages.now _ _ c.requires.ascending (sym c.in-Some.ensures)

pub returns-in-Some : goal.returns-in-Some
returns-in-Some g c =
    c.get.ensures
    ∙ ap (found_in c.args.key.now) (c.in-Some.ensures ∙ ap (slice_get c.args.pages.now) c.page_index.ensures.value)
    ∙ found-at c.args.key.now c.args.pages.now c.requires.ascending c.requires.held

pub returns-in-None : goal.returns-in-None
returns-in-None g c =
    ap (found_in c.args.key.now) (c.in-None.ensures ∙ ap (slice_get c.args.pages.now) c.page_index.ensures.value)
    ∙ found-at c.args.key.now c.args.pages.now c.requires.ascending c.requires.held
