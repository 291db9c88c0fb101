use Rattle.std.proofs.Common.{ap, sym, subst, ◌∙◌, ◌≡◌, ◌+◌, ◌++◌, ◌∷◌, [], List, length, arith, length-append, slice_set, true}
use Rattle.event_book.specs.Callers.{Caller, made_by_all}
use Rattle.event_book.specs.Lists.{AreMarked}
use Rattle.event_book.proofs.Counting.{marked_more, made_more}
use Rattle.event_book.proofs.returned.Returned.add.Goals as goal

pub invariant_of-self : goal.invariant_of-self
invariant_of-self g c =
    let d : Caller = record { number = c.holder.inside.number; front = c.holder.inside.front.list } in
    let list : List Caller = c.self.inside.came in
    let grew : c.add.new.self ≡ list ++ d ∷ [] = c.add.ensures in
    let more : length c.add.new.self ≡ length list + 1 = ap length grew ∙ length-append list (d ∷ []) in
    let parts : c.merge.new.self.parts ≡ c.self.inside.share.parts + 1 = omega (arith, c.merge.ensures.parts, c.holder.invariant.0) in (
      omega (arith, parts, c.self.invariant.0, more),
      c.self.invariant.1,
      omega (arith, parts, c.merge.ensures.apart, c.self.invariant.0, c.self.invariant.1, more),
      omega (arith, c.merge.ensures.amount, c.self.invariant.3, c.holder.invariant.1, c.holder.invariant.2, made_more list d, ap made_by_all grew),
      subst (AreMarked (slice_set c.self.inside.marks c.holder.inside.number true)) (sym grew)
          (marked_more c.self.inside.marks list d c.self.invariant.4 c.holder.invariant.3),
    )
