-- The page takes the key in, or its value grows there, or the page is full.
use Rattle.std.proofs.Common.{sym, ◌∙◌, subst}
use Rattle.key_pages.specs.Pairs.{IsAscending}
use Rattle.key_pages.proofs.Pages.{ascending-at}
use Rattle.key_pages.proofs.PageChanges.{done-put, full-put, same-at, tried-put}
use Rattle.key_pages.proofs.changes.try_put_at.Goals as goal

pub try_put-requires-clause-ascending : goal.try_put-requires-clause-ascending
try_put-requires-clause-ascending g c =
    subst IsAscending (sym c.index_mut.ensures.value)
    (ascending-at c.args.index c.args.pages.now.items c.index_mut.result.now c.requires.pages.ascending c.requires.inside)

pub try_put-requires-clause-may : goal.try_put-requires-clause-may
try_put-requires-clause-may g c =
    λ w e. c.requires.may w
    (sym (same-at c.args.key.now c.args.pages.now.items c.args.index c.index_mut.result.now c.index_mut.result.now c.requires.pages
    c.requires.index c.requires.inside c.index_mut.ensures.value) ∙ e)

pub returns-clause-done : goal.returns-clause-done
returns-clause-done g c =
    done-put (g.G.Growth.grown c.args.growth.now) c.args.key.now (g.G.Growth.fresh c.args.growth.now) c.args.pages.now.items c.requires.pages
    c.args.index c.index_mut.result.now c.index_mut.result.now c.try_put.new.self c.requires.index c.requires.inside c.index_mut.ensures.value
    c.try_put.result c.try_put.ensures.done

pub returns-clause-full : goal.returns-clause-full
returns-clause-full g c =
    full-put (g.G.Growth.grown c.args.growth.now) c.args.key.now (g.G.Growth.fresh c.args.growth.now) c.args.pages.now.items c.requires.pages
    c.args.index c.index_mut.result.now c.index_mut.result.now c.try_put.new.self c.requires.index c.requires.inside c.index_mut.ensures.value
    c.try_put.result c.try_put.ensures.full

pub returns-clause-pages : goal.returns-clause-pages
returns-clause-pages g c =
    tried-put (g.G.Growth.grown c.args.growth.now) c.args.key.now (g.G.Growth.fresh c.args.growth.now) c.args.pages.now.items c.requires.pages
    c.args.index c.index_mut.result.now c.index_mut.result.now c.try_put.new.self c.requires.index c.requires.inside c.index_mut.ensures.value
    c.try_put.result c.try_put.ensures.done c.try_put.ensures.full c.try_put.ensures.err
