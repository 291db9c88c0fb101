-- The page takes the key in, or its value grows there.
use Rattle.std.proofs.Common.{sym, ◌∙◌, subst}
use Rattle.key_pages.specs.Pairs.{IsAscending}
use Rattle.key_pages.proofs.Pages.{ascending-at}
use Rattle.key_pages.proofs.PageChanges.{on-put, pages-put, same-at}
use Rattle.key_pages.proofs.changes.put_at.Goals as goal

pub put-requires-clause-ascending : goal.put-requires-clause-ascending
put-requires-clause-ascending g c =
    subst IsAscending (sym c.index_mut.ensures.value)
    (ascending-at c.args.index c.args.pages.now.items c.index_mut.result.now c.requires.pages.ascending c.requires.inside)

pub put-requires-clause-may : goal.put-requires-clause-may
put-requires-clause-may g c =
    λ w e. c.requires.may w
    (sym (same-at c.args.key.now c.args.pages.now.items c.args.index c.index_mut.result.now c.index_mut.result.now c.requires.pages
    c.requires.index c.requires.inside c.index_mut.ensures.value) ∙ e)

pub returns-clause-ok : goal.returns-clause-ok
returns-clause-ok g c =
    on-put (g.G.Growth.grown c.args.growth.now) c.args.key.now (g.G.Growth.fresh c.args.growth.now) c.args.pages.now.items c.requires.pages
    c.args.index c.index_mut.result.now c.index_mut.result.now c.put.new.self c.requires.index c.requires.inside c.index_mut.ensures.value
    c.put.result c.put.ensures.ok

pub returns-clause-pages : goal.returns-clause-pages
returns-clause-pages g c =
    pages-put (g.G.Growth.grown c.args.growth.now) c.args.key.now (g.G.Growth.fresh c.args.growth.now) c.args.pages.now.items c.requires.pages
    c.args.index c.index_mut.result.now c.index_mut.result.now c.put.new.self c.requires.index c.requires.inside c.index_mut.ensures.value
    c.put.result c.put.ensures.ok c.put.ensures.err
