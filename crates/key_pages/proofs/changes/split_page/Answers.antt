-- Both halves stand where the page stood.
use Rattle.std.proofs.Common.{◌+◌, get_or, set, ◌∙◌, ap, arith}
use Rattle.std.specs.List.{insert}
use Rattle.key_pages.proofs.PageChanges.{split-pages}
use Rattle.key_pages.proofs.changes.split_page.Goals as goal

pub returns-clause-same : goal.returns-clause-same
returns-clause-same g c =
    let i = c.args.index in
    (split-pages i (i + 1) c.args.pages.now.items c.insert.new.self.items c.index_mut.result.now c.index_mut.result.now c.split.new.self c.in_ok-upper.upper
    c.requires.pages c.requires.inside (c.requires.full c.index_mut.result.now)
    (c.index_mut.ensures.value ∙ ap (λ qs. get_or qs i c.index_mut.result.now) c.in_ok-reserve.ensures.items)
    c.in_ok-upper.ensures.lower c.in_ok-upper.ensures.upper (omega arith)
    (c.in_ok-insert.ensures.items ∙ ap (λ qs. insert (set qs i c.split.new.self) (i + 1) c.in_ok-upper.upper) c.in_ok-reserve.ensures.items)).0

pub returns-clause-pages : goal.returns-clause-pages
returns-clause-pages g c =
    let i = c.args.index in
    (split-pages i (i + 1) c.args.pages.now.items c.insert.new.self.items c.index_mut.result.now c.index_mut.result.now c.split.new.self c.in_ok-upper.upper
    c.requires.pages c.requires.inside (c.requires.full c.index_mut.result.now)
    (c.index_mut.ensures.value ∙ ap (λ qs. get_or qs i c.index_mut.result.now) c.in_ok-reserve.ensures.items)
    c.in_ok-upper.ensures.lower c.in_ok-upper.ensures.upper (omega arith)
    (c.in_ok-insert.ensures.items ∙ ap (λ qs. insert (set qs i c.split.new.self) (i + 1) c.in_ok-upper.upper) c.in_ok-reserve.ensures.items)).1
