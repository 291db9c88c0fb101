-- Those before the revision are passed over.
use Rattle.std.specs.Prelude.{nat_le}
use Rattle.std.proofs.Common.{◌&&◌, ◌∙◌, ap, filter, List}
use Rattle.kv_model.specs.declared.version.Version.{Version}
use Rattle.watch_hub.proofs.Matches.{filter-from}
use Rattle.watch_hub.proofs.walk.all_from.Goals as goal

pub returns-clause-from : goal.returns-clause-from
returns-clause-from c = λ p.
    ap (λ (vs : List Version). filter p vs) c.versions_from.ensures.value
    ∙ filter-from c.args.next p c.args.tables.now.versions
