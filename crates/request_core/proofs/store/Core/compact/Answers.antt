use Rattle.std.proofs.Common.{◌≤◌, sym, subst, arith}
use Rattle.std.specs.Int.{w64}
use Rattle.std.proofs.lemmas.Int.{to_z-of_z}
use Rattle.kv_model.specs.History.{value_now}
use Rattle.store_laws.proofs.CompactLaws.{compact_within}
use Rattle.lease_keys.specs.Holding.{AreJust}
use Rattle.range_view.specs.Stored.{Stored}
use Rattle.request_core.specs.State.{IsSound}
use Rattle.request_core.proofs.Compacting.{compacted-sound}
use Rattle.request_core.proofs.store.Core.compact.Goals as goal

pub invariant_of-self : goal.invariant_of-self
invariant_of-self g c =
    let t = c.self.inside.tables in
    let clear = rw (to_z-of_z w64 c.args.revision c.ranges.revision) at c.in-Ok.ensures.floor in
    let within = compact_within c.compacted.result c.revision.result c.args.revision clear.0 in
    let past : c.in-Ok.floor ≤ t.revision = omega (arith, within.1, clear.1, c.revision.ensures.value) in (
      subst IsSound (sym c.compact.ensures) (compacted-sound t c.in-Ok.floor c.self.invariant.0 past),
      subst (λ (u : Stored). AreJust c.self.inside.keys (value_now u.versions)) (sym c.compact.ensures) c.self.invariant.1,
    )
