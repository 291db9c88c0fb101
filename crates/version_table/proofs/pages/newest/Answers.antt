-- The last version of all is the last one of the last page.
use Rattle.std.proofs.Common.{sym, ◌∙◌, ap}
use Rattle.version_table.specs.Rising.{newest}
use Rattle.version_table.proofs.PageLookups.{newest-flat, newest_in}
use Rattle.version_table.proofs.pages.newest.Goals as goal

pub returns-in-Some : goal.returns-in-Some
returns-in-Some c = c.newest.ensures ∙ ap newest c.versions.ensures ∙ ap newest_in c.in-Some.ensures ∙ sym (newest-flat _ c.requires)

pub returns-in-None : goal.returns-in-None
returns-in-None c = ap newest_in c.in-None.ensures ∙ sym (newest-flat _ c.requires)
