use Rattle.std.proofs.Common.{sym, subst}
use Rattle.kv_model.specs.History.{value_now}
use Rattle.lease_keys.specs.Holding.{AreJust}
use Rattle.range_view.specs.Stored.{Stored}
use Rattle.trim_core.specs.Told.{told_of}
use Rattle.request_core.specs.State.{IsSound}
use Rattle.request_core.proofs.Trimming.{tables_leave, trimmed-just, trimmed-sound}
use Rattle.request_core.proofs.store.Core.trim_tables.Goals as goal

pub invariant_of-self : goal.invariant_of-self
invariant_of-self c =
    let t = c.self.inside.tables in
    let sound = c.self.invariant.0 in
    let stored = c.trim_step.ensures.stored in (
      subst IsSound (sym c.trim_step.ensures.kept) (trimmed-sound t stored sound),
      subst (λ (u : Stored). AreJust c.self.inside.keys (value_now u.versions)) (sym c.trim_step.ensures.kept)
          (trimmed-just t c.self.inside.keys stored sound c.self.invariant.1),
    )

pub returns : goal.returns
returns c = tables_leave c.self.inside.tables c.trim_step.new.self c.self.inside.book c.self.inside.hub c.self.inside.stamp c.args.self.now
    (told_of c.trim_step.result) c.trim_step.ensures.stored c.self.invariant.0 c.self.view_is c.trim_step.ensures.told c.trim_step.ensures.kept
