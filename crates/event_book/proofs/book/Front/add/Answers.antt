use Rattle.std.proofs.Common.{sym, subst, ◌∙◌, ap, ◌≤◌, List, length, arith}
use mathlib.Core.List.{IsPrefix}
use Rattle.event_book.specs.Events.{Entry}
use Rattle.event_book.proofs.Adding.{adds_moves}
use Rattle.event_book.proofs.Prefixes.{prefix_length}
use Rattle.event_book.proofs.book.Front.add.Goals as goal

pub compare_exchange-found-requires : goal.compare_exchange-found-requires
compare_exchange-found-requires g c =
    let h = c.book.invariant in
    let offer = c.plain-offer.ensures in
    let pen = c.no_pen-pen.ensures in
    let both = c.learn.new.self.log in
    let same = c.learn.ensures.0 ∙ (ap (λ s. s.book) c.again-both.ensures ∙ (ap (λ b. b.book) c.self.view_is ∙ sym c.requires.book ∙ sym c.book.view_is)) in
    let this : IsPrefix c.self.inside.seen.log both = subst (λ (l : List Entry). IsPrefix l both) (ap (λ s. s.log) c.again-both.ensures) c.learn.ensures.2 in
    let room : c.self.inside.count ≤ length both = omega (arith, c.self.invariant, prefix_length c.self.inside.seen.log both this) in (
      ap (λ w. w.tracked) h,
      same,
      pen.0 ∙ same,
      offer.0,
      rw (ap (λ w. w.key) h, pen.1, offer.1, offer.3 ∙ c.requires.state) (adds_moves both _ c.self.inside.count room),
    )
