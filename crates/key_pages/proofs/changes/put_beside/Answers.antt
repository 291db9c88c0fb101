-- On a new page behind all others, or on its page, which is split first.
use Rattle.std.proofs.Common.{◌<◌, length, sym, ◌∙◌, ap, subst}
use Rattle.key_pages.specs.Paged.{is_behind, page_index}
use Rattle.key_pages.proofs.Pages.{index-bound}
use Rattle.key_pages.proofs.PageChanges.{behind-none, on-pushed, pages-pushed}
use Rattle.key_pages.proofs.changes.put_beside.Goals as goal

pub returns-then-is_behind-clause-ok : goal.returns-then-is_behind-clause-ok
returns-then-is_behind-clause-ok g c =
    on-pushed (g.G.Growth.grown c.args.growth.now) c.args.key.now (g.G.Growth.fresh c.args.growth.now) c.args.pages.now.items c.requires.pages
    c.first.result c.first.ensures c.push_page.new.pages.items (ap (is_behind c.args.key.now) (sym c.deref.ensures.value) ∙ sym c.is_behind.ensures ∙ c.if-is_behind.true)
    c.push_page.result c.push_page.ensures.ok

pub returns-then-is_behind-clause-pages : goal.returns-then-is_behind-clause-pages
returns-then-is_behind-clause-pages g c =
    pages-pushed (g.G.Growth.grown c.args.growth.now) c.args.key.now (g.G.Growth.fresh c.args.growth.now) c.args.pages.now.items c.requires.pages
    c.first.result c.first.ensures c.push_page.new.pages.items (ap (is_behind c.args.key.now) (sym c.deref.ensures.value) ∙ sym c.is_behind.ensures ∙ c.if-is_behind.true)
    c.push_page.result c.push_page.ensures.ok c.push_page.ensures.err

pub split_page-requires-clause-inside : goal.split_page-requires-clause-inside
split_page-requires-clause-inside g c =
    let k = c.args.key.now in
    let ps = c.args.pages.now.items in
    subst (λ i. i < length ps) (sym c.requires.index)
    (index-bound k ps (behind-none k ps (ap (is_behind k) (sym c.deref.ensures.value) ∙ sym c.is_behind.ensures ∙ c.if-is_behind.false)))

pub split_page-requires-clause-full : goal.split_page-requires-clause-full
split_page-requires-clause-full g c =
    let k = c.args.key.now in
    let ps = c.args.pages.now.items in
    λ d. c.requires.full d
    (subst (λ i. i < length ps) (sym c.requires.index)
    (index-bound k ps (behind-none k ps (ap (is_behind k) (sym c.deref.ensures.value) ∙ sym c.is_behind.ensures ∙ c.if-is_behind.false))))

pub put_at-requires-clause-inside : goal.put_at-requires-clause-inside
put_at-requires-clause-inside g c =
    let k = c.args.key.now in
    let qs = c.split_page.new.pages.items in
    subst (λ i. i < length qs) (sym (c.page_index-index.ensures.value ∙ ap (page_index k) c.deref-2.ensures.value))
    (index-bound k qs c.in_default.ensures.some)
