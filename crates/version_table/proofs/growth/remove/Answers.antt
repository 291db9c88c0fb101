-- The page changes on which the version stands, if there is such a page.
use Rattle.std.proofs.Common.{◌≡◌, ◌+◌, ◌<◌, ◌≤◌, List, length, sym, ◌∙◌, ap, subst, arith, rules}
use Rattle.kv_model.specs.declared.version.Version.{Version}
use Rattle.version_table.specs.Paged.{Fit, HaveVersions, change_at, flat, freed, pages_before, without_version}
use Rattle.version_table.proofs.PageChanges.{change-past, fit-without, flat-freed, flat-without, held-freed, length-change}
use Rattle.version_table.proofs.growth.remove.Goals as goal

pub returns-then-index-len-clause-value : goal.returns-then-index-len-clause-value
returns-then-index-len-clause-value c =
    let f = without_version c.args.rev in
    let ps = c.args.pages.now.items in
    let same : c.len.result ≡ length ps = search rules in
    let past : length ps ≤ c.pages_before-index.result = omega (arith, same, c.if-index-len.true) in
    ap flat (sym (change-past f c.pages_before-index.result ps past))
    ∙ ap (λ k. flat (change_at f k ps)) (c.pages_before-index.ensures ∙ ap (pages_before c.args.rev) c.deref.ensures.value)
    ∙ flat-without c.args.rev ps c.requires.rising

pub free-requires : goal.free-requires
free-requires c =
    let f = without_version c.args.rev in
    let ps = c.args.pages.now.items in
    let i = c.pages_before-index.result in
    let same : c.len.result ≡ length ps = search rules in
    let inside : c.pages_before-index.result < length ps = omega (arith, same, c.if-index-len.false) in
    subst (λ n. i < n) (sym (ap length c.remove_in-gone.ensures.value ∙ length-change f i ps)) inside

pub returns-clause-value : goal.returns-clause-value
returns-clause-value c =
    let f = without_version c.args.rev in
    let ps = c.args.pages.now.items in
    ap flat c.free.ensures ∙ flat-freed c.pages_before-index.result c.remove_in-gone.new.pages.items
    ∙ ap flat c.remove_in-gone.ensures.value
    ∙ ap (λ k. flat (change_at f k ps)) (c.pages_before-index.ensures ∙ ap (pages_before c.args.rev) c.deref.ensures.value)
    ∙ flat-without c.args.rev ps c.requires.rising

pub returns-clause-held : goal.returns-clause-held
returns-clause-held c =
    let i = c.pages_before-index.result in
    subst HaveVersions (sym (c.free.ensures ∙ ap (freed i) c.remove_in-gone.ensures.value))
    (held-freed (without_version c.args.rev) i c.args.pages.now.items c.requires.held)

pub returns-clause-count : goal.returns-clause-count
returns-clause-count c =
    ap (λ (vs : List Version). c.remove_in-gone.result + length vs)
    (ap flat c.free.ensures ∙ flat-freed c.pages_before-index.result c.remove_in-gone.new.pages.items)
    ∙ c.remove_in-gone.ensures.count

pub returns-clause-fit : goal.returns-clause-fit
returns-clause-fit c =
    let i = c.pages_before-index.result in
    subst Fit (sym (c.free.ensures ∙ ap (freed i) c.remove_in-gone.ensures.value))
    (fit-without c.args.rev i c.args.pages.now.items c.requires.fit)
