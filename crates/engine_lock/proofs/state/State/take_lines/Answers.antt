use Rattle.std.proofs.Common.{◌≡◌, Bool, List, ℕ, ap, rules, sym, subst, ◌∙◌}
use Rattle.event_book.specs.Events.{Entry}
use Rattle.event_script.specs.Scripts.{IsWritten, Taken}
use Rattle.event_script.specs.Taking.{Takes, taken_next}
use Rattle.event_script.proofs.Writing.{written_taking}
use Rattle.engine_lock.proofs.Locking.{over_next}
use Rattle.engine_lock.proofs.state.State.take_lines.Goals as goal

-- what is taken now, by what stood under the lock and what was taken of the lines
next : (t u : Taken) (all : Bool) (front log : List Entry) → u ≡ taken_next t all front → front ≡ log → u ≡ taken_next t all log
next t u all front log is has = is ∙ ap (taken_next t all) has

-- what the taker is given, by what it was given before and its text
given : (t o u : Taken) (all : Bool) (log : List Entry) (line text : List ℕ) → t ≡ o → u ≡ taken_next t all log → text ≡ line
    → Takes t (taken_next t all log) line all → Takes o u text all
given t o u all log line text before after same h =
    subst (λ x. Takes o u x all) (sym same) (subst (λ x. Takes o x line all) (sym after) (subst (λ x. Takes x (taken_next t all log) line all) before h))

pub invariant_of-self : goal.invariant_of-self
invariant_of-self g c =
    let taking = written_taking c.self.inside.lines c.take-is_whole.new.self c.self.inside.taken c.take-is_whole.result c.self.inside.listing
    c.self.invariant.0.written c.take-is_whole.ensures.left c.take-is_whole.ensures.all in
    let is = next c.self.inside.taken c.take_on.new.self c.take-is_whole.result c.front.result.list c.self.inside.listing c.take_on.ensures c.front.ensures.list in (
      record {
        fits = c.self.invariant.0.fits;
        written = subst (λ (t : Taken). IsWritten c.take-is_whole.new.self t c.self.inside.listing) (sym is) taking.0;
      },
      search rules,
      λ none. over_next c.self.inside.taken c.take_on.new.self c.take-is_whole.result c.self.inside.listing is (c.self.invariant.2 none),
    )

pub returns-clause-takes : goal.returns-clause-takes
returns-clause-takes g c =
    let taking = written_taking c.self.inside.lines c.take-is_whole.new.self c.self.inside.taken c.take-is_whole.result c.self.inside.listing
    c.self.invariant.0.written c.take-is_whole.ensures.left c.take-is_whole.ensures.all in
    let is = next c.self.inside.taken c.take_on.new.self c.take-is_whole.result c.front.result.list c.self.inside.listing c.take_on.ensures c.front.ensures.list in
    record {
      takes = given c.self.inside.taken c.args.taken.now c.again.result c.take-is_whole.result c.self.inside.listing c.self.inside.lines.text
          c.take-is_whole.new.text.items (c.is.ensures c.sure.ensures) (c.again.ensures.value ∙ is) c.take-is_whole.ensures.text taking.1;
      history = c.again.ensures.history;
    }
