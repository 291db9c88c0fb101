-- A version at the revision is the one that is found, on whatever page it stands.
use Rattle.std.proofs.Common.{◌≡◌, Bor, Some, sym}
use Rattle.std.specs.List.{find}
use Rattle.kv_model.specs.declared.version.Version.{Version}
use Rattle.kv_model.specs.History.{is_at}
use Rattle.version_table.specs.Paged.{flat}
use Rattle.version_table.proofs.PageLookups.{find-in, rising-page, some-other}
use Rattle.version_table.proofs.pages.version_if.Goals as goal

pub version_if-requires : goal.version_if-requires
version_if-requires c = rising-page c.args.pages.now _ _ c.requires (sym c.in-Some.ensures)

pub returns-in-Some : goal.returns-in-Some
returns-in-Some c =
    some-other (λ (v : Bor Version). find (is_at c.args.rev) c.in-Some.versions.now ≡ Some v.now)
    (λ (v : Bor Version). find (is_at c.args.rev) (flat c.args.pages.now) ≡ Some v.now)
    (λ v h. find-in c.args.rev c.args.pages.now _ c.in-Some.versions.now v.now c.requires (sym c.in-Some.ensures) h)
    c.version_if.result c.version_if.ensures
