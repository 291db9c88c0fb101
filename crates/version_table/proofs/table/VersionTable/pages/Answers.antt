-- Each page has a version, and room for 256.
use Rattle.std.proofs.Common.{◌≡◌, ◌≤◌, ◌*◌, List, length, sym, subst, rules}
use Rattle.kv_model.specs.declared.version.Version.{Version}
use Rattle.version_table.specs.Paged.{flat}
use Rattle.version_table.proofs.PageLookups.{pages-filled, pages-fit}
use Rattle.version_table.proofs.table.VersionTable.pages.Goals as goal

pub returns-clause-most : goal.returns-clause-most
returns-clause-most c =
    let ps = c.self.inside.pages.items in
    let same : c.len.result ≡ length c.self.inside.pages.items = search rules in
    subst (λ (vs : List Version). c.len.result ≤ length vs) c.self.view_is
    (subst (λ n. n ≤ length (flat ps)) (sym same) (pages-fit ps c.self.invariant.held))

pub returns-clause-least : goal.returns-clause-least
returns-clause-least c =
    let ps = c.self.inside.pages.items in
    let same : c.len.result ≡ length c.self.inside.pages.items = search rules in
    subst (λ (vs : List Version). length vs ≤ 256 * c.len.result) c.self.view_is
    (subst (λ n. length (flat ps) ≤ 256 * n) (sym same) (pages-filled ps c.self.invariant.fit))
