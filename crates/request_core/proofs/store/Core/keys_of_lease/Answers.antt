-- The index has every key that is seen at the end of the present revision.
use Rattle.std.proofs.Common.{sym, ◌∙◌, ap, subst}
use Rattle.kv_model.specs.declared.version.Rev.{Rev}
use Rattle.kv_model.specs.History.{value_at, value_now, end_of}
use Rattle.lease_keys.specs.Holding.{Holds}
use Rattle.lease_keys.proofs.Just.{just-holds}
use Rattle.range_view.specs.Stored.{Viewed, seen_at}
use Rattle.request_core.proofs.Leased.{holds-seen}
use Rattle.request_core.proofs.store.Core.keys_of_lease.Goals as goal

pub live-requires : goal.live-requires
live-requires c =
    let u = c.self.inside in
    let seen = c.view_at.ensures ∙ ap (λ (p : Rev). seen_at p u.tables) (c.end_of-place.ensures ∙ ap end_of c.revision.ensures.value) in
    subst (λ (v : Viewed). Holds u.keys (value_at v.versions v.place)) (sym seen)
    (holds-seen u.keys u.tables c.revision.ensures.stored c.self.invariant.0
    (just-holds u.keys (value_now u.tables.versions) c.self.invariant.1))
