use Rattle.std.proofs.Common.{sym, ◌∙◌, ap, subst}
use Rattle.std.specs.Prelude.{option_map}
use Rattle.kv_model.specs.History.{value_at, end_of}
use Rattle.range_view.specs.Stored.{Viewed}
use Rattle.range_view.specs.Replies.{kv_view}
use Rattle.request_core.specs.Writing.{IsHeldTo}
use Rattle.request_core.specs.State.{CoreState}
use Rattle.request_core.proofs.Kept.{held-counted}
use Rattle.request_core.proofs.store.Core.held.Goals as goal

pub returns-clause-counted : goal.returns-clause-counted
returns-clause-counted c =
    let t = c.self.inside.tables in
    let found = c.get.ensures ∙ ap (λ (v : Viewed). value_at v.versions v.place c.args.key.now) c.view.ensures in
    subst (λ (s : CoreState). IsHeldTo s.store.revision (option_map kv_view c.get.result)) c.self.view_is
    (subst (IsHeldTo t.revision) (sym found) (held-counted t (end_of t.revision) c.args.key.now c.self.invariant.0))
