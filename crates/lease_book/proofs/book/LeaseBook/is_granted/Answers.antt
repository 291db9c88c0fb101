use Rattle.std.proofs.Common.{◌∙◌, ap, is_some}
use Rattle.std.specs.Int.{w64}
use Rattle.std.proofs.lemmas.Int.{to_z-of_z}
use Rattle.lease_book.specs.Entries.{lease_of}
use Rattle.lease_book.proofs.Order.{is_some_mapped, is_some-lease_at}
use Rattle.lease_book.proofs.book.LeaseBook.is_granted.Goals as goal

pub returns : goal.returns
returns c =
    rw (← c.self.view_is)
    (c.is_some.ensures ∙ is_some_mapped lease_of c.get.result ∙ ap is_some (rw (to_z-of_z w64 c.args.id c.ranges.id) at c.get.ensures)
    ∙ is_some-lease_at c.self.inside.leases c.args.id)
