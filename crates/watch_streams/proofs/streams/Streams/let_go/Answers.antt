use Rattle.std.proofs.Common.{sym, subst}
use Rattle.watch_streams.specs.Sets.{AreNumbered}
use Rattle.watch_streams.proofs.Standing.{numbered_removed}
use Rattle.watch_streams.proofs.streams.Streams.let_go.Goals as goal

pub invariant_of-self : goal.invariant_of-self
invariant_of-self g c = subst AreNumbered (sym c.remove.ensures.entries) (numbered_removed c.args.number c.self.inside.lines.entries c.self.invariant)
