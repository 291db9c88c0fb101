-- What stands at the key's place decides.
use Rattle.std.proofs.Common.{sym, ◌∙◌, ap}
use Rattle.std.specs.List.{slice_get}
use Rattle.key_pages.specs.Paged.{value_if}
use Rattle.key_pages.proofs.Places.{found-place}
use Rattle.key_pages.proofs.page.Page.get.Goals as goal

pub returns-in-Some : goal.returns-in-Some
returns-in-Some g c =
    c.value_if.ensures
    ∙ ap (value_if c.args.key.now) (c.in-Some.ensures ∙ ap (slice_get c.args.self.now) c.count_below.ensures.value)
    ∙ sym (found-place c.args.key.now c.args.self.now c.requires)

pub returns-in-None : goal.returns-in-None
returns-in-None g c =
    ap (value_if c.args.key.now) (c.in-None.ensures ∙ ap (slice_get c.args.self.now) c.count_below.ensures.value)
    ∙ sym (found-place c.args.key.now c.args.self.now c.requires)
