use Rattle.std.proofs.Common.{None, Some, ap, subst, rules}
use Rattle.std.specs.Prelude.{option_map, FitsSigned}
use Rattle.std.specs.Int.{w64}
use Rattle.std.proofs.lemmas.Int.{to_z-of_z}
use Rattle.watch_hub.specs.Hub.{pending_of}
use Rattle.request_core.specs.State.{CoreState, core_state}
use Rattle.request_core.proofs.Watching.{IsNamed, id_worlds}
use Rattle.request_core.proofs.store.Core.watch_id.Goals as goal

pub returns-in-Ok : goal.returns-in-Ok
returns-in-Ok c =
    let fits : FitsSigned w64 c.in-Ok.pending.id = search rules in
    rw (to_z-of_z w64 _ fits) (subst (λ (s : CoreState). IsNamed s c.args.number (Some c.in-Ok.pending.id)) c.self.view_is
    (id_worlds (core_state c.self.inside.tables c.self.inside.book c.self.inside.hub c.self.inside.stamp) c.args.number _ c.in-Ok.ensures.found))

pub returns-in-Err : goal.returns-in-Err
returns-in-Err c = subst (λ (s : CoreState). IsNamed s c.args.number None) c.self.view_is
    (id_worlds (core_state c.self.inside.tables c.self.inside.book c.self.inside.hub c.self.inside.stamp) c.args.number None (ap (option_map pending_of) c.in-Err.ensures.missing.1))
