use Rattle.std.proofs.Common.{sym, subst, ◌∙◌}
use Rattle.kv_model.specs.World.{without_watch}
use Rattle.store_laws.specs.Stands.{StandsFor}
use Rattle.watch_hub.specs.Hub.{Hub}
use Rattle.watch_hub.proofs.Delivered.{stood}
use Rattle.watch_hub.proofs.Standing.{ended_stands}
use Rattle.request_core.specs.Apart.{RestState}
use Rattle.request_core.specs.State.{store_kept}
use Rattle.request_core.proofs.Watching.{rest_same}
use Rattle.request_core.proofs.store.rest.Rest.cancel.Goals as goal

pub returns-clause-stood : goal.returns-clause-stood
returns-clause-stood c = λ t w h. c.cancel.ensures.found
    ∙ stood (store_kept t c.self.inside.book c.self.inside.hub) w
    (subst (λ (r : RestState). StandsFor (store_kept t r.book r.hub) w) (sym c.self.view_is) h) c.args.number

pub returns-clause-stands : goal.returns-clause-stands
returns-clause-stands c =
    let u = c.self.inside in
    λ t w h. subst (λ (b : Hub). StandsFor (store_kept t u.book b) (record w { watches = without_watch c.args.number w.watches })) (sym c.cancel.ensures.left)
    (ended_stands (store_kept t u.book u.hub) w (subst (λ (r : RestState). StandsFor (store_kept t r.book r.hub) w) (sym c.self.view_is) h) c.args.number)

pub returns-clause-unchanged : goal.returns-clause-unchanged
returns-clause-unchanged c =
    let u = c.self.inside in
    rest_same c.cancel.result c.args.number u.book u.keys u.hub u.stamp c.cancel.new.self c.args.self.now c.cancel.ensures.found c.cancel.ensures.left c.self.view_is
