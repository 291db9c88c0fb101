use Rattle.std.proofs.Common.{ap, subst, List}
use mathlib.Core.List.{IsPrefix}
use Rattle.event_book.specs.Events.{Entry}
use Rattle.event_book.proofs.Prefixes.{prefix_either}
use Rattle.event_book.proofs.book.Front.agree.Goals as goal

pub returns : goal.returns
returns c =
    let both = c.learn.new.self.log in
    let this : IsPrefix c.self.inside.seen.log both = subst (λ (l : List Entry). IsPrefix l both) (ap (λ s. s.log) c.again-both.ensures) c.learn.ensures.2 in
    rw (← c.self.view_is, ← c.other.view_is) (prefix_either c.self.inside.seen.log c.other.inside.seen.log both this c.learn.ensures.3)
