-- The page changes on which the key stands, and goes where it was the last one there.
use Rattle.std.proofs.Common.{◌≡◌, ◌<◌, [], get_or, length, refl, sym, ◌∙◌, ap, subst, arith, rules}
use Rattle.key_pages.specs.Pairs.{cut_in, found, told_by}
use Rattle.key_pages.specs.Paged.{ArePages, change_at, flat, freed, page_index}
use Rattle.key_pages.proofs.Pages.{found-page, length-change, no-page}
use Rattle.key_pages.proofs.PageChanges.{cut-page}
use Rattle.key_pages.proofs.changes.cut.Goals as goal

pub returns-then-index-len-clause-pairs : goal.returns-then-index-len-clause-pairs
returns-then-index-len-clause-pairs g c =
    let k = c.args.key.now in
    let ps = c.args.pages.now.items in
    let same : c.len.result ≡ length ps = search rules in
    let index : c.page_index-index.result ≡ page_index k ps = c.page_index-index.ensures.value ∙ ap (page_index k) c.deref.ensures.value in
    let none : ps ≡ [] = no-page k ps (omega (arith, same, index, c.if-index-len.true)) in
    subst (λ qs. flat qs ≡ cut_in (g.C.Cut.left c.args.cut.now) (g.C.Cut.is_spent c.args.cut.now) k (flat qs)) (sym none) refl

pub returns-then-index-len-clause-told : goal.returns-then-index-len-clause-told
returns-then-index-len-clause-told g c =
    let k = c.args.key.now in
    let ps = c.args.pages.now.items in
    let same : c.len.result ≡ length ps = search rules in
    let index : c.page_index-index.result ≡ page_index k ps = c.page_index-index.ensures.value ∙ ap (page_index k) c.deref.ensures.value in
    let none : ps ≡ [] = no-page k ps (omega (arith, same, index, c.if-index-len.true)) in
    ap (λ qs. told_by (g.C.Cut.told c.args.cut.now) c.args.cut.now (found k (flat qs))) (sym none)

pub free-requires : goal.free-requires
free-requires g c =
    let ps = c.args.pages.now.items in
    let i = c.page_index-index.result in
    let f = cut_in (g.C.Cut.left c.args.cut.now) (g.C.Cut.is_spent c.args.cut.now) c.args.key.now in
    let same : c.len.result ≡ length ps = search rules in
    let inside : i < length ps = omega (arith, same, c.if-index-len.false) in
    subst (λ n. i < n) (sym (ap length c.cut_at.ensures.pages ∙ length-change f i ps)) inside

pub returns-clause-pairs : goal.returns-clause-pairs
returns-clause-pairs g c =
    let k = c.args.key.now in
    let ps = c.args.pages.now.items in
    let i = c.page_index-index.result in
    let f = cut_in (g.C.Cut.left c.args.cut.now) (g.C.Cut.is_spent c.args.cut.now) k in
    let same : c.len.result ≡ length ps = search rules in
    let index : i ≡ page_index k ps = c.page_index-index.ensures.value ∙ ap (page_index k) c.deref.ensures.value in
    let some : 0 < length ps = omega (arith, same, c.if-index-len.false) in
    ap flat (c.free.ensures ∙ ap (freed i) c.cut_at.ensures.pages ∙ ap (λ j. freed j (change_at f j ps)) index)
    ∙ (cut-page (g.C.Cut.left c.args.cut.now) (g.C.Cut.is_spent c.args.cut.now) k ps c.requires some).value

pub returns-clause-told : goal.returns-clause-told
returns-clause-told g c =
    let k = c.args.key.now in
    let ps = c.args.pages.now.items in
    let i = c.page_index-index.result in
    let same : c.len.result ≡ length ps = search rules in
    let index : i ≡ page_index k ps = c.page_index-index.ensures.value ∙ ap (page_index k) c.deref.ensures.value in
    let some : 0 < length ps = omega (arith, same, c.if-index-len.false) in
    c.cut_at.ensures.told []
    ∙ ap (told_by (g.C.Cut.told c.args.cut.now) c.args.cut.now)
    (ap (λ j. found k (get_or ps j [])) index ∙ sym (found-page k ps [] c.requires.ascending c.requires.held some))

pub returns-clause-pages : goal.returns-clause-pages
returns-clause-pages g c =
    let k = c.args.key.now in
    let ps = c.args.pages.now.items in
    let i = c.page_index-index.result in
    let f = cut_in (g.C.Cut.left c.args.cut.now) (g.C.Cut.is_spent c.args.cut.now) k in
    let same : c.len.result ≡ length ps = search rules in
    let index : i ≡ page_index k ps = c.page_index-index.ensures.value ∙ ap (page_index k) c.deref.ensures.value in
    let some : 0 < length ps = omega (arith, same, c.if-index-len.false) in
    subst ArePages (sym (c.free.ensures ∙ ap (freed i) c.cut_at.ensures.pages ∙ ap (λ j. freed j (change_at f j ps)) index))
    (cut-page (g.C.Cut.left c.args.cut.now) (g.C.Cut.is_spent c.args.cut.now) k ps c.requires some).pages
