use Rattle.std.proofs.Common.{◌≡◌, subst}
use Rattle.std.specs.Prelude.{IfOk, IfErr}
use Rattle.request_core.specs.State.{CoreState, core_state}
use Rattle.request_core.proofs.Watching.{IsMissing, IsUntold, missing_worlds, told_worlds, untold_worlds}
use Rattle.watch_hub.specs.Messages.{delivery_view}
use Rattle.kv_model.specs.World.{World}
use Rattle.kv_model.specs.Watches.{deliver}
use Rattle.store_laws.specs.Stands.{StandsFor}
use Rattle.request_core.proofs.store.Core.deliver.Goals as goal

pub returns-clause-told : goal.returns-clause-told
returns-clause-told c = subst (λ (s : CoreState). IfOk c.deliver.result (λ d. (w : World) → StandsFor s.store w → delivery_view d ≡ (deliver w c.args.number).0))
    c.self.view_is (told_worlds (core_state c.self.inside.tables c.self.inside.book c.self.inside.hub c.self.inside.stamp) c.args.number c.deliver.result c.deliver.ensures.told)

pub returns-clause-refused : goal.returns-clause-refused
returns-clause-refused c = subst (λ (s : CoreState). IfErr c.deliver.result (IsUntold s c.args.number))
    c.self.view_is (untold_worlds (core_state c.self.inside.tables c.self.inside.book c.self.inside.hub c.self.inside.stamp) c.args.number c.deliver.result c.deliver.ensures.refused)

pub returns-clause-missing : goal.returns-clause-missing
returns-clause-missing c = subst (λ (s : CoreState). IfErr c.deliver.result (IsMissing s c.args.number))
    c.self.view_is (missing_worlds (core_state c.self.inside.tables c.self.inside.book c.self.inside.hub c.self.inside.stamp) c.args.number c.deliver.result c.deliver.ensures.refused)
