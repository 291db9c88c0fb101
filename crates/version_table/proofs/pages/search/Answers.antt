-- The version stands in the first page that does not stand wholly before its revision.
use Rattle.std.proofs.Common.{sym, ◌∙◌, ap}
use Rattle.version_table.proofs.PageLookups.{find-page, found_in, rising-page}
use Rattle.version_table.proofs.pages.search.Goals as goal

pub search-requires : goal.search-requires
search-requires c = rising-page c.args.pages.now _ _ c.requires.rising (sym c.in-Some.ensures)

pub returns-in-Some : goal.returns-in-Some
returns-in-Some c =
    c.search.ensures ∙ ap (found_in c.args.rev) c.in-Some.ensures ∙ sym (find-page c.args.rev c.args.pages.now c.requires.rising)

pub returns-in-None : goal.returns-in-None
returns-in-None c = ap (found_in c.args.rev) c.in-None.ensures ∙ sym (find-page c.args.rev c.args.pages.now c.requires.rising)
