use Rattle.std.proofs.Common.{sym, subst}
use Rattle.store_laws.specs.Stands.{noted}
use Rattle.watch_hub.specs.Entries.{AreUpTo}
use Rattle.watch_hub.proofs.Placing.{up-to-map, noted-number}
use Rattle.watch_hub.proofs.hub.WatchHub.note.Goals as goal

pub invariant_of-self : goal.invariant_of-self
invariant_of-self c = subst (λ ts. AreUpTo c.self.inside.made ts) (sym c.note.ensures)
    (up-to-map c.self.inside.made (noted c.args.versions.now c.args.now)
    (noted-number c.args.versions.now c.args.now) c.self.inside.entries c.self.invariant)
