-- The last pair is the one at the last index.
use Rattle.std.proofs.Common.{◌∙◌, ap}
use Rattle.store_laws.specs.Rising.{newest}
use Rattle.store_laws.proofs.Rising.{slice_get-newest}
use Rattle.key_pages.proofs.page.Page.last.Goals as goal

pub returns : goal.returns
returns g c = c.last.ensures.value ∙ slice_get-newest c.deref.result.now ∙ ap newest (c.deref.ensures.value ∙ c.self.view_is)
