-- One page changes.
use Rattle.std.proofs.Common.{set, sym, ◌∙◌, ap, subst}
use Rattle.key_pages.specs.Pairs.{IsAscending, cut_in}
use Rattle.key_pages.proofs.Pages.{ascending-at, set-change}
use Rattle.key_pages.proofs.changes.cut_at.Goals as goal

pub cut-requires : goal.cut-requires
cut-requires g c =
    subst IsAscending (sym c.index_mut.ensures.value)
    (ascending-at c.args.index c.args.pages.now.items c.index_mut.result.now c.requires.ascending c.requires.inside)

pub returns-clause-pages : goal.returns-clause-pages
returns-clause-pages g c =
    let f = cut_in (g.C.Cut.left c.args.cut.now) (g.C.Cut.is_spent c.args.cut.now) c.args.key.now in
    ap (λ q. set c.args.pages.now.items c.args.index q) (c.cut.ensures.pairs ∙ ap f c.index_mut.ensures.value)
    ∙ set-change f c.args.pages.now.items c.args.index c.index_mut.result.now c.requires.inside
