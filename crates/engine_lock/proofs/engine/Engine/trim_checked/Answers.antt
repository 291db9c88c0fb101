use Rattle.std.proofs.Common.{sym, ◌∙◌, ap, subst}
use Rattle.kv_model.specs.declared.ids.Ids.{Ids}
use Rattle.std.specs.Prelude.{MatchResult}
use Rattle.engine_lock.specs.Entering.{Makes, ShowsTo}
use Rattle.engine_lock.specs.Locked.{EngineState}
use Rattle.kv_model.specs.Follows.Outcome.{said}
use Rattle.kv_model.specs.Wire.{WireEvent}
use Rattle.json_gateway.specs.Runs.{trimmed_view}
use Rattle.event_book.specs.Events.{Event}
use Rattle.engine_lock.proofs.Submitting.{left_checked}
use Rattle.engine_lock.proofs.engine.Engine.trim_checked.Goals as goal

pub returns-clause-makes : goal.returns-clause-makes
returns-clause-makes g c = subst (λ (i : Ids). MatchResult c.trim_checked.result (λ t. Makes i c.args.client.now Event.trimming WireEvent.trim (said (trimmed_view t)) c.trim_checked.new.client) (λ e. ShowsTo c.args.client.now c.trim_checked.new.client)) (sym c.self.invariant.0 ∙ ap (λ (s : EngineState). s.ids) c.self.view_is)
    (left_checked g.L.ListName.ids c.args.client.now c.trim_checked.new.client c.leave.new.self c.trim_checked.result c.leave.ensures c.trim_checked.ensures.makes)
