-- The last page is the one at the last index.
use Rattle.std.proofs.Common.{◌∙◌}
use Rattle.store_laws.proofs.Rising.{slice_get-newest}
use Rattle.key_pages.proofs.changes.last_page.Goals as goal

pub returns : goal.returns
returns g c = c.last.ensures.value ∙ slice_get-newest c.args.pages.now
