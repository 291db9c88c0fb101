-- The versions above the revision before are those of the present one.
use Rattle.std.proofs.Common.{◌≡◌, ◌+◌, filter, map, nat_le, sym, ◌∙◌, ap, subst}
use Rattle.kv_model.specs.declared.version.Version.{Version}
use Rattle.store_laws.specs.Stands.{noted}
use Rattle.watch_hub.specs.Hub.{Hub}
use Rattle.range_view.specs.Stored.{AreOf, IsUpTo}
use Rattle.request_core.specs.State.{CoreState, core_state, noted_above}
use Rattle.request_core.proofs.Kept.{upto-newest}
use Rattle.request_core.proofs.store.Core.note_above.Goals as goal

pub note_all-requires-clause-next : goal.note_all-requires-clause-next
note_all-requires-clause-next c =
    c.requires ∙ sym (ap (λ (s : CoreState). s.store.revision) c.self.view_is) ∙ sym c.revision-now.ensures.value

pub note_all-requires-clause-newest : goal.note_all-requires-clause-newest
note_all-requires-clause-newest c =
    let t = c.self.inside.tables in
    let now = c.revision-now.result in
    subst (AreOf now) (sym c.versions_from.ensures.value)
    (upto-newest now t.versions
    (subst (λ n. IsUpTo n t.versions) (sym c.revision-now.ensures.value) c.versions_from.ensures.stored.upto))

pub returns : goal.returns
returns c =
    let t = c.self.inside.tables in
    let hub = c.self.inside.hub in
    let now : c.revision-now.result ≡ c.self.inside.tables.revision = c.revision-now.ensures.value in
    let next : c.args.before + 1 ≡ c.revision-now.result =
    c.requires ∙ sym (ap (λ (s : CoreState). s.store.revision) c.self.view_is) ∙ sym c.revision-now.ensures.value in
    let above : c.versions_from.result ≡ filter (λ v. nat_le (c.args.before + 1) v.rev.main) c.self.inside.tables.versions =
    c.versions_from.ensures.value ∙ ap (λ n. filter (λ (v : Version). nat_le n v.rev.main) t.versions) (sym next) in
    ap (λ (h : Hub). core_state t c.self.inside.book h c.self.inside.stamp)
    (c.note_all.ensures ∙ (λ i. record hub { watches = map (noted (above i) (now i)) hub.watches }))
    ∙ ap (noted_above c.args.before) c.self.view_is
