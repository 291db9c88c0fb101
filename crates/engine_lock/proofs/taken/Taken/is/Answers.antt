use Rattle.std.proofs.Common.{sym, ◌∙◌}
use Rattle.event_book.proofs.Prefixes.{prefix_length, prefix_whole}
use Rattle.engine_lock.proofs.Locking.{bools}
use Rattle.engine_lock.proofs.taken.Taken.is.Goals as goal

pub returns : goal.returns
returns g c = λ same.
    let there = c.begins_with-2.ensures.begins c.if-not-begins_with-2.false in
    let back = c.begins_with.ensures.begins c.if-not-begins_with.false in
    let front = prefix_whole c.self.inside.front.list c.other.inside.front.list there (prefix_length c.other.inside.front.list c.self.inside.front.list back) in
    let over = bools c.self.inside.is_over c.other.inside.is_over same in
    sym c.self.view_is ∙ (λ i. record { front = front i; is_over = over i }) ∙ c.other.view_is
