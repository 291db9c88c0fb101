-- There is such a page, and no version on it.
use Rattle.std.proofs.Common.{◌∙◌, ap}
use Rattle.version_table.specs.Paged.{is_void}
use Rattle.version_table.proofs.PageChanges.{empty-is}
use Rattle.version_table.proofs.growth.is_void.Goals as goal

pub returns-in-Some : goal.returns-in-Some
returns-in-Some c = empty-is _ _ c.is_empty.ensures ∙ ap is_void c.in-Some.ensures

pub returns-in-None : goal.returns-in-None
returns-in-None c = ap is_void c.in-None.ensures
