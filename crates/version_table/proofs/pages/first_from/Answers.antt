-- The first version that is not before the revision stands in the first page that does not stand wholly before it.
use Rattle.std.proofs.Common.{sym, ◌∙◌, ap}
use Rattle.std.specs.List.{slice_get}
use Rattle.kv_model.specs.History.{rev_lt}
use Rattle.store_laws.proofs.Rising.{find-not}
use Rattle.version_table.proofs.PageLookups.{next-page, next_in, rising-page}
use Rattle.version_table.proofs.pages.first_from.Goals as goal

pub count_before-requires : goal.count_before-requires
count_before-requires c = rising-page c.args.pages.now _ _ c.requires.rising (sym c.in-Some.ensures)

pub returns-in-Some : goal.returns-in-Some
returns-in-Some c =
    c.version_at.ensures
    ∙ ap (slice_get c.in-Some.versions.now) c.count_before.ensures
    ∙ sym (find-not (λ v. rev_lt v.rev c.args.rev) c.in-Some.versions.now)
    ∙ ap (next_in c.args.rev) c.in-Some.ensures ∙ sym (next-page c.args.rev c.args.pages.now c.requires.rising)

pub returns-in-None : goal.returns-in-None
returns-in-None c = ap (next_in c.args.rev) c.in-None.ensures ∙ sym (next-page c.args.rev c.args.pages.now c.requires.rising)
