use Rattle.std.proofs.Common.{sym, ap, subst}
use Rattle.watch_streams.specs.Sets.{AreNumbered, SetState, TurnsOf}
use Rattle.watch_streams.proofs.Exact.{turned_is}
use Rattle.watch_streams.proofs.Standing.{numbered_at, numbered_set}
use Rattle.watch_streams.proofs.streams.Streams.turn_once.Goals as goal

pub returns-in-Some : goal.returns-in-Some
returns-in-Some g c = rw (sym c.self.view_is) (record {
  before = c.in-Some.line.now;
  after = c.take_turn.new.line;
  stood = sym c.in-Some.ensures.value;
  number = numbered_at c.args.number c.self.inside.lines.entries c.in-Some.line.now c.self.invariant (sym c.in-Some.ensures.value);
  turned = c.take_turn.ensures.turned;
  lines = (c.get_mut.follows.holds c.take_turn.new.line).0;
})

pub invariant_of-self : goal.invariant_of-self
invariant_of-self g c = subst AreNumbered (sym (c.get_mut.follows.holds c.take_turn.new.line).0)
    (numbered_set c.args.number c.self.inside.lines.entries c.in-Some.line.now c.take_turn.new.line (sym c.in-Some.ensures.value)
    (turned_is _ _ _ _ _ _ c.take_turn.ensures.turned).grows.number c.self.invariant)
