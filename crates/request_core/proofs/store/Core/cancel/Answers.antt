use Rattle.std.proofs.Common.{◌∙◌, sym, subst}
use Rattle.kv_model.specs.World.{without_watch}
use Rattle.store_laws.specs.Stands.{StandsFor}
use Rattle.watch_hub.specs.Hub.{Hub}
use Rattle.watch_hub.proofs.Delivered.{stood}
use Rattle.watch_hub.proofs.Standing.{ended_stands}
use Rattle.request_core.specs.State.{CoreState, store_kept}
use Rattle.request_core.proofs.Watching.{cancelled_same}
use Rattle.request_core.proofs.store.Core.cancel.Goals as goal

pub returns-clause-stood : goal.returns-clause-stood
returns-clause-stood c = λ w h. c.cancel.ensures.found
    ∙ stood (store_kept c.self.inside.tables c.self.inside.book c.self.inside.hub) w (subst (λ (s : CoreState). StandsFor s.store w) (sym c.self.view_is) h) c.args.number

pub returns-clause-stands : goal.returns-clause-stands
returns-clause-stands c =
    let u = c.self.inside in
    λ w h. subst (λ (b : Hub). StandsFor (store_kept u.tables u.book b) (record w { watches = without_watch c.args.number w.watches })) (sym c.cancel.ensures.left)
    (ended_stands (store_kept u.tables u.book u.hub) w (subst (λ (s : CoreState). StandsFor s.store w) (sym c.self.view_is) h) c.args.number)

pub returns-clause-unchanged : goal.returns-clause-unchanged
returns-clause-unchanged c =
    let u = c.self.inside in
    cancelled_same c.cancel.result c.args.number u.stamp u.tables u.book u.hub c.cancel.new.self c.args.self.now c.cancel.ensures.found c.cancel.ensures.left c.self.view_is
