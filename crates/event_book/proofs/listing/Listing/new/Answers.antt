use Rattle.std.proofs.Common.{ap, sym, subst, ◌∙◌, length}
use Rattle.event_book.specs.Events.{IsHistory}
use Rattle.event_book.proofs.Counting.{counted_first}
use Rattle.event_book.proofs.listing.Listing.new.Goals as goal

pub invariant_of-result : goal.invariant_of-result
invariant_of-result g c =
    let book = ap (λ o. o.book) c.opening.view_is ∙ c.requires.book in
    let none = c.opening.invariant.2 in (
      book,
      c.opening.invariant.1 ∙ book,
      subst (IsHistory g.L.ListName.ids) (sym none) tt,
      c.open-total.ensures.total ∙ sym (ap length none),
      counted_first c.no_counts.result c.opening.inside.front.list c.no_counts.ensures none,
    )
