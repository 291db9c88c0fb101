-- Another version than the first goes from behind the places that hold nothing.
use Rattle.std.proofs.Common.{ℕ, List, drop, ◌∙◌, ap}
use Rattle.kv_model.specs.declared.version.Version.{Version}
use Rattle.version_table.specs.Paged.{Places, without_at}
use Rattle.version_table.proofs.Gone.{other-gone}
use Rattle.version_table.proofs.page.Page.take_out.Goals as goal

abbrev places : ℕ → List Version → Places
places n vs = record { used = n; versions = vs }

pub returns-else-index-eq0 : goal.returns-else-index-eq0
returns-else-index-eq0 c =
    let p = c.self.inside in
    ap (λ vs. places p.used vs) (ap (drop p.gone) c.remove_at.ensures.value ∙ other-gone p.gone c.args.index p.versions.items)
    ∙ ap (without_at c.args.index) c.self.view_is
