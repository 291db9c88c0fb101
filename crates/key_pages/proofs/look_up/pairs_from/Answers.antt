-- The keys below the key stand first.
use Rattle.std.proofs.Common.{drop, ◌∙◌, ap}
use Rattle.key_pages.specs.Paged.{count_below}
use Rattle.key_pages.proofs.Places.{from-place}
use Rattle.key_pages.proofs.look_up.pairs_from.Goals as goal

pub returns : goal.returns
returns g c =
    c.split_at.ensures.back
    ∙ ap (λ n. drop n c.pairs.result.now) c.count_below.ensures.value
    ∙ ap (drop (count_below c.args.key.now c.args.page.now)) c.pairs.ensures
    ∙ from-place c.args.key.now c.args.page.now c.requires
