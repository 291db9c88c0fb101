use Rattle.std.proofs.Common.{◌≡◌, ◌-◌, filter, nat_le, ◌∙◌, ap, subst, rules}
use Rattle.kv_model.specs.declared.version.Rev.{Rev}
use Rattle.kv_model.specs.declared.version.Version.{Version}
use Rattle.kv_model.specs.History.{end_of, value_at}
use Rattle.lease_keys.specs.Holding.{AreTakenBack}
use Rattle.range_view.specs.Stored.{Viewed, seen_at}
use Rattle.request_core.specs.State.{newest}
use Rattle.request_core.proofs.store.appending.take_back.Goals as goal

pub returns : goal.returns
returns c =
    let t = c.args.tables.now in
    let us : c.versions_from.result ≡ newest t = c.versions_from.ensures.value
    ∙ ap (λ n. filter (λ (v : Version). nat_le n v.rev.main) t.versions) c.revision-revision.ensures.value in
    let before : c.saturating_sub.result ≡ c.revision-revision.result - 1 = search rules in
    let seen : c.view_at.result ≡ seen_at (end_of (t.revision - 1)) t = c.view_at.ensures
    ∙ ap (λ (p : Rev). seen_at p t) (c.end_of-place.ensures ∙ ap end_of (before ∙ ap (λ n. n - 1) c.revision-revision.ensures.value)) in
    subst (λ vs. AreTakenBack vs (value_at t.versions (end_of (t.revision - 1))) c.args.keys.now c.take_back.new.self) us
    (subst (λ (v : Viewed). AreTakenBack c.versions_from.result (value_at v.versions v.place) c.args.keys.now c.take_back.new.self) seen
    c.take_back.ensures)
