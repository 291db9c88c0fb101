use Rattle.std.proofs.Common.{sym, ap, subst}
use Rattle.store_laws.specs.Stands.{Tracked}
use Rattle.watch_hub.specs.Entries.{AreUpTo, tracked_of}
use Rattle.std.proofs.Common.{◌+◌}
use Rattle.watch_hub.proofs.Placing.{up-to-push}
use Rattle.watch_hub.proofs.hub.WatchHub.add.Goals as goal

pub invariant_of-self-2 : goal.invariant_of-self-2
invariant_of-self-2 c = subst (λ ts. AreUpTo (c.self.inside.made + 1) ts) (sym c.in_ok-push.ensures.ok)
    (up-to-push c.self.inside.made c.self.inside.entries (tracked_of c.in_ok-entry.entry) c.self.invariant
    (ap (λ (t : Tracked). t.number) c.in_ok-entry.ensures))
