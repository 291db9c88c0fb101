use Rattle.std.proofs.Common.{ap, sym, ◌∙◌, length, arith}
use Rattle.event_book.specs.Callers.{made_by_all}
use Rattle.event_book.proofs.Counting.{marked_first}
use Rattle.event_book.proofs.returned.Returned.of.Goals as goal

pub invariant_of-result : goal.invariant_of-result
invariant_of-result g c =
    let none = c.nobody.ensures in (
      omega (arith, c.requires.parts, ap length none),
      c.requires.whole,
      omega (arith, ap length none),
      c.requires.none ∙ sym (ap made_by_all none),
      marked_first c.no_marks.result c.nobody.result c.no_marks.ensures none,
    )
