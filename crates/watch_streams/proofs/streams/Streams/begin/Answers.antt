use Rattle.std.proofs.Common.{sym, ap, subst}
use Rattle.watch_streams.specs.Lines.{LineState}
use Rattle.watch_streams.specs.Sets.{AreNumbered}
use Rattle.watch_streams.proofs.Standing.{numbered_inserted}
use Rattle.watch_streams.proofs.streams.Streams.begin.Goals as goal

pub invariant_of-self-2 : goal.invariant_of-self-2
invariant_of-self-2 g c = subst AreNumbered (sym c.in_ok-insert.ensures.entries)
    (numbered_inserted c.args.number c.self.inside.lines.entries c.in_ok-line.line (ap (λ (l : LineState). l.number) c.in_ok-line.ensures) c.self.invariant)
