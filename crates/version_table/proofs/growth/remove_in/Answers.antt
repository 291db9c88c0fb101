-- One page changes.
use Rattle.std.proofs.Common.{◌≡◌, ◌+◌, List, length, get_or, set, sym, ◌∙◌, ap, subst}
use Rattle.version_table.specs.Rising.{IsRising}
use Rattle.version_table.specs.Paged.{Places, flat, versions_in, without_version}
use Rattle.version_table.proofs.PageLookups.{rising-at}
use Rattle.version_table.proofs.PageChanges.{fewer, set-change}
use Rattle.version_table.proofs.growth.remove_in.Goals as goal

pub remove-requires : goal.remove-requires
remove-requires c =
    subst (λ (q : Places). IsRising q.versions) (sym c.index_mut.ensures.value)
    (rising-at c.args.pages.now.items c.args.index c.index_mut.result.now c.requires.rising c.requires.inside)

pub returns-clause-value : goal.returns-clause-value
returns-clause-value c =
    let f = without_version c.args.rev in
    let ps = c.args.pages.now.items in
    ap (λ (q : Places). set ps c.args.index q) (c.remove.ensures.value ∙ ap f c.index_mut.ensures.value)
    ∙ set-change f ps c.args.index c.index_mut.result.now c.requires.inside

pub returns-clause-count : goal.returns-clause-count
returns-clause-count c =
    let f = without_version c.args.rev in
    let ps = c.args.pages.now.items in
    let q = c.index_mut.result.now in
    let n = c.remove.result in
    let is : c.remove.new.self ≡ f (get_or ps c.args.index q) = c.remove.ensures.value ∙ ap f c.index_mut.ensures.value in
    let gone : n + length (versions_in (f (get_or ps c.args.index q))) ≡ length (versions_in (get_or ps c.args.index q)) =
    sym (ap (λ (w : Places). n + length w.versions) is) ∙ c.remove.ensures.count
    ∙ ap (λ (w : Places). length w.versions) c.index_mut.ensures.value in
    ap (λ (w : Places). n + length (flat (set ps c.args.index w))) is
    ∙ ap (λ (ws : List Places). n + length (flat ws)) (set-change f ps c.args.index q c.requires.inside)
    ∙ fewer f n c.args.index ps q c.requires.inside gone
