use Rattle.std.proofs.Common.{◌<◌, subst, List, All, arith}
use Rattle.event_book.specs.Events.{Entry}
use Rattle.event_book.proofs.Counting.{marked_all}
use Rattle.event_book.proofs.listing.Listing.known_by.Goals as goal

pub returns : goal.returns
returns g c is =
    let known : All (λ (e : Entry). e.by < 64) c.args.self.now = subst (λ (l : List Entry). All (λ (e : Entry). e.by < 64) l) c.self.view_is c.self.invariant.4.known in
    marked_all c.args.marks.now c.args.self.now (λ n lt some. c.loop-number.invariant n (omega (arith, lt, c.loop-number-test.false)) some) known
