use Rattle.std.proofs.Common.{sym, subst}
use Rattle.watch_hub.specs.Hub.{has_number}
use Rattle.watch_hub.specs.Entries.{AreUpTo}
use Rattle.std.proofs.Common.{not}
use Rattle.watch_hub.proofs.Placing.{up-to-filter}
use Rattle.watch_hub.proofs.hub.WatchHub.cancel.Goals as goal

pub invariant_of-self : goal.invariant_of-self
invariant_of-self c = subst (λ ts. AreUpTo c.self.inside.made ts) (sym c.remove.ensures.left)
    (up-to-filter c.self.inside.made (λ t. not (has_number c.args.number t)) c.self.inside.entries c.self.invariant)
