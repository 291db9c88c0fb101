-- The pages behind the first one ascend.
use Rattle.std.proofs.Common.{drop, subst}
use Rattle.key_pages.specs.Pairs.{IsAscending}
use Rattle.key_pages.specs.Paged.{flat}
use Rattle.key_pages.proofs.Pages.{tail-ascending}
use Rattle.key_pages.proofs.look_up.page_index.Goals as goal

pub count_up_to-requires-clause-ascending : goal.count_up_to-requires-clause-ascending
count_up_to-requires-clause-ascending g c =
    subst (λ ps. IsAscending (flat (drop 1 ps))) c.in-Some.ensures.cases.0 (tail-ascending c.args.pages.now c.requires.ascending)
