use Rattle.std.proofs.Common.{sym, refl, subst}
use Rattle.watch_hub.specs.Hub.{has_number, told_to}
use Rattle.watch_hub.specs.Entries.{AreUpTo}
use Rattle.std.proofs.Common.{cond}
use Rattle.watch_hub.proofs.Placing.{up-to-map, changed-number}
use Rattle.watch_hub.proofs.hub.WatchHub.advance.Goals as goal

pub invariant_of-self : goal.invariant_of-self
invariant_of-self c = subst (λ ts. AreUpTo c.self.inside.made ts) (sym c.advance.ensures)
    (up-to-map c.self.inside.made (λ t. cond (has_number c.args.number t) (told_to c.args.tables.now.versions c.args.tables.now.revision c.args.last t) t)
    (changed-number (told_to c.args.tables.now.versions c.args.tables.now.revision c.args.last) c.args.number
    (λ t. refl)) c.self.inside.entries c.self.invariant)
