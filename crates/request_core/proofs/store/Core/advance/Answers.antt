use Rattle.std.proofs.Common.{sym, subst}
use Rattle.kv_model.specs.Watches.{deliver}
use Rattle.store_laws.specs.Stands.{StandsFor}
use Rattle.watch_hub.specs.Hub.{Hub}
use Rattle.watch_hub.proofs.Delivered.{delivery_left}
use Rattle.request_core.specs.State.{CoreState, store_kept}
use Rattle.request_core.proofs.store.Core.advance.Goals as goal

pub returns-clause-stands : goal.returns-clause-stands
returns-clause-stands c =
    let u = c.self.inside in
    λ w h. subst (λ (b : Hub). StandsFor (store_kept u.tables u.book b) (deliver w c.args.number).1) (sym c.go_on.ensures.left)
    (delivery_left (store_kept u.tables u.book u.hub) w (subst (λ (s : CoreState). StandsFor s.store w) (sym c.self.view_is) h) c.args.number c.go_on.ensures.ascending)
