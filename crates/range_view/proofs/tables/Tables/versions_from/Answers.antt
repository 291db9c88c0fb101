-- Those from a main revision on are those that are not before its first change.
use Rattle.std.proofs.Common.{◌∙◌, ap, filter, nat_le}
use Rattle.kv_model.specs.declared.version.Version.{Version}
use Rattle.range_view.specs.Stored.{Stored}
use Rattle.range_view.proofs.TakingBack.{from-main}
use Rattle.range_view.proofs.tables.Tables.versions_from.Goals as goal

pub returns-clause-value : goal.returns-clause-value
returns-clause-value c =
    c.versions_from.ensures.value ∙ (λ i. filter (λ (v : Version). from-main c.args.next v.rev i) c.self.inside.table)
    ∙ ap (λ (s : Stored). filter (λ v. nat_le c.args.next v.rev.main) s.versions) c.self.view_is

pub returns-clause-stored : goal.returns-clause-stored
returns-clause-stored c = rw (← c.self.view_is) c.self.invariant.stored
