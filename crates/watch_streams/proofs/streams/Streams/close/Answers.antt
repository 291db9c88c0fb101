use Rattle.std.proofs.Common.{◌≡◌, refl, sym, subst}
use Rattle.watch_streams.specs.Lines.{LineState, closed}
use Rattle.watch_streams.specs.Sets.{AreNumbered, ChangesOne}
use Rattle.watch_streams.proofs.Standing.{changes_one, close_number, numbered_set, then_err, then_ok, unchanged}
use Rattle.watch_streams.proofs.streams.Streams.close.Goals as goal

pub invariant_of-self : goal.invariant_of-self
invariant_of-self g c = subst AreNumbered (sym (c.get_mut.follows.holds c.close.new.self).0)
    (numbered_set c.args.number c.self.inside.lines.entries c.in-Some.line.now c.close.new.self (sym c.in-Some.ensures.value)
    (close_number c.close.result c.in-Some.line.now c.close.new.self c.close.ensures.ok c.close.ensures.err) c.self.invariant)

pub returns-in-Some-clause-ok : goal.returns-in-Some-clause-ok
returns-in-Some-clause-ok g c = rw (sym c.self.view_is) (then_ok c.close.result _ _
    (changes_one closed c.args.number _ _ c.in-Some.line.now c.close.new.self (sym c.in-Some.ensures.value) refl
    (c.get_mut.follows.holds c.close.new.self).0) c.close.ensures.ok)

pub returns-in-Some-clause-err : goal.returns-in-Some-clause-err
returns-in-Some-clause-err g c = rw (sym c.self.view_is) (then_err c.close.result _ _
    (unchanged c.args.number _ _ c.in-Some.line.now c.close.new.self (sym c.in-Some.ensures.value) refl
    (c.get_mut.follows.holds c.close.new.self).0) c.close.ensures.err)
