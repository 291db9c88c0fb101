use Rattle.std.proofs.Common.{sym, subst}
use Rattle.kv_model.specs.History.{value_now}
use Rattle.lease_keys.specs.Holding.{AreJust}
use Rattle.range_view.specs.Stored.{Stored}
use Rattle.request_core.specs.State.{IsSound}
use Rattle.request_core.proofs.Leased.{blank-sound}
use Rattle.request_core.proofs.store.Core.at.Goals as goal

pub invariant_of-result : goal.invariant_of-result
invariant_of-result c = subst (λ (t : Stored). IsSound t × AreJust c.new-2.result (value_now t.versions)) (sym c.at.ensures)
    (blank-sound c.args.revision c.new-2.result c.requires.fits c.new-2.ensures)
