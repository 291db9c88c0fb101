use Rattle.std.proofs.Common.{◌∙◌, refl, sym, ap, subst}
use Rattle.watch_streams.specs.Lines.{LineState, aged}
use Rattle.watch_streams.specs.Sets.{AreNumbered}
use Rattle.watch_streams.proofs.Exact.{grows_aged}
use Rattle.watch_streams.proofs.Standing.{changes_one, numbered_set}
use Rattle.watch_streams.proofs.streams.Streams.ages.Goals as goal

pub invariant_of-self : goal.invariant_of-self
invariant_of-self g c = subst AreNumbered (sym (c.get_mut.follows.holds c.ages.new.self).0)
    (numbered_set c.args.number c.self.inside.lines.entries c.in-Some.line.now c.ages.new.self (sym c.in-Some.ensures.value)
    (ap (λ (l : LineState). l.number) c.ages.ensures.looks ∙ (grows_aged c.in-Some.line.now).number) c.self.invariant)

pub returns-in-Some-clause-one : goal.returns-in-Some-clause-one
returns-in-Some-clause-one g c = rw (sym c.self.view_is) (changes_one aged c.args.number _ _ c.in-Some.line.now c.ages.new.self
    (sym c.in-Some.ensures.value) refl (c.get_mut.follows.holds c.ages.new.self).0 c.ages.ensures.looks)
