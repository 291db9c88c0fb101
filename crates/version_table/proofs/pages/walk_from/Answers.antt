-- The pages before the first one that does not stand wholly before the revision are passed over.
use Rattle.std.proofs.Common.{◌≡◌, ℕ, ◌≤◌, ◌++◌, [], List, drop, filter, length, not, sym, ◌∙◌, ap, subst}
use Rattle.std.proofs.lemmas.List.{nil_from_length}
use Rattle.kv_model.specs.declared.version.Rev.{Rev}
use Rattle.kv_model.specs.History.{rev_lt}
use Rattle.kv_model.specs.declared.version.Version.{Version}
use Rattle.store_laws.proofs.Rising.{count_while-le}
use Rattle.version_table.specs.Rising.{IsRising}
use Rattle.version_table.specs.Paged.{Places, HaveVersions, flat, is_past, pages_before}
use Rattle.version_table.proofs.PageLookups.{from-page, held-drop, left_from, parted, rising-drop}
use Rattle.version_table.proofs.pages.walk_from.Goals as goal

-- the pages that are left, counted by the model
rest-of : (p : Rev) (ps rest : List Places) (k : ℕ) → k ≡ pages_before p ps → rest ≡ drop k ps → drop (pages_before p ps) ps ≡ rest
rest-of p ps rest k at is = ap (λ n. drop n ps) (sym at) ∙ sym is

pub pages_from-rest-requires : goal.pages_from-rest-requires
pages_from-rest-requires c =
    subst (λ k. k ≤ length c.args.pages.now) (sym c.pages_before.ensures)
    (count_while-le (λ p. is_past c.args.rev p) c.args.pages.now)

pub versions_from-requires : goal.versions_from-requires
versions_from-requires c =
    let left = rest-of c.args.rev c.args.pages.now _ _ c.pages_before.ensures c.pages_from-rest.ensures in
    let ps = c.args.pages.now in
    let k = pages_before c.args.rev ps in
    subst IsRising (sym c.versions.ensures)
    (parted c.in-Some.page.now.versions (flat c.in-Some.later.now)
    (subst (λ (qs : List Places). IsRising (flat qs)) (left ∙ c.in-Some.ensures.cases.0) (rising-drop k ps c.requires.rising))).front

pub of-requires : goal.of-requires
of-requires c =
    let left = rest-of c.args.rev c.args.pages.now _ _ c.pages_before.ensures c.pages_from-rest.ensures in
    let ps = c.args.pages.now in
    (subst HaveVersions (left ∙ c.in-Some.ensures.cases.0) (held-drop (pages_before c.args.rev ps) ps c.requires.held)).1

pub returns-in-Some : goal.returns-in-Some
returns-in-Some c =
    let left = rest-of c.args.rev c.args.pages.now _ _ c.pages_before.ensures c.pages_from-rest.ensures in
    c.of.ensures
    ∙ ap (λ (us : List Version). us ++ flat c.in-Some.later.now)
    (c.versions_from.ensures ∙ ap (filter (λ (v : Version). not (rev_lt v.rev c.args.rev))) c.versions.ensures)
    ∙ ap (left_from c.args.rev) (sym (left ∙ c.in-Some.ensures.cases.0))
    ∙ sym (from-page c.args.rev c.args.pages.now c.requires.rising)

pub all-requires : goal.all-requires
all-requires c =
    let left = rest-of c.args.rev c.args.pages.now _ _ c.pages_before.ensures c.pages_from-rest.ensures in
    let ps = c.args.pages.now in
    subst HaveVersions left (held-drop (pages_before c.args.rev ps) ps c.requires.held)

pub returns-in-None : goal.returns-in-None
returns-in-None c =
    let left = rest-of c.args.rev c.args.pages.now _ _ c.pages_before.ensures c.pages_from-rest.ensures in
    let none : c.pages_from-rest.result.now ≡ [] = nil_from_length c.pages_from-rest.result.now c.in-None.ensures.cases in
    c.all.ensures ∙ ap flat none ∙ ap (left_from c.args.rev) (sym (left ∙ none))
    ∙ sym (from-page c.args.rev c.args.pages.now c.requires.rising)
