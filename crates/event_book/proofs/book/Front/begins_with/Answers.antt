use Rattle.std.proofs.Common.{ap, subst, List, ◌≤◌, ◌<◌, length, arith}
use mathlib.Core.List.{IsPrefix}
use Rattle.std.proofs.lemmas.Bool.Decides.{nat_tests}
use Rattle.event_book.specs.Events.{Entry}
use Rattle.event_book.proofs.Prefixes.{prefix_shorter}
use Rattle.event_book.proofs.book.Front.begins_with.Goals as goal

pub returns-clause-begins : goal.returns-clause-begins
returns-clause-begins c is =
    let both = c.learn.new.self.log in
    let this : IsPrefix c.self.inside.seen.log both = subst (λ (l : List Entry). IsPrefix l both) (ap (λ s. s.log) c.again-both.ensures) c.learn.ensures.2 in
    let count : c.other.inside.count ≤ c.self.inside.count = grind (arith, nat_tests) in
    let less : length c.other.inside.seen.log ≤ length c.self.inside.seen.log = omega (arith, count, c.self.invariant, c.other.invariant) in
    rw (← c.self.view_is, ← c.other.view_is) (prefix_shorter c.other.inside.seen.log c.self.inside.seen.log both c.learn.ensures.3 this less)

pub returns-clause-shorter : goal.returns-clause-shorter
returns-clause-shorter c is =
    let both = c.learn.new.self.log in
    let this : IsPrefix c.self.inside.seen.log both = subst (λ (l : List Entry). IsPrefix l both) (ap (λ s. s.log) c.again-both.ensures) c.learn.ensures.2 in
    let count : c.self.inside.count < c.other.inside.count = grind (arith, nat_tests) in
    let less : length c.self.inside.seen.log < length c.other.inside.seen.log = omega (arith, count, c.self.invariant, c.other.invariant) in
    rw (← c.self.view_is, ← c.other.view_is)
    (prefix_shorter c.self.inside.seen.log c.other.inside.seen.log both this c.learn.ensures.3 (omega (arith, less)), less)
