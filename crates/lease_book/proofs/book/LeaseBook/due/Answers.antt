use Rattle.std.proofs.Common.{◌≡◌, true, false, leb, arith, rules}
use Rattle.std.specs.Int.{w64}
use Rattle.std.specs.Int.RustNames.{FitsSigned}
use Rattle.std.proofs.lemmas.Bool.Decides.{nat_tests}
use Rattle.std.proofs.lemmas.Int.{to_z-of_z}
use Rattle.lease_book.proofs.Changes.{due-earliest}
use Rattle.lease_book.proofs.book.LeaseBook.due.Goals as goal

pub returns-in-None : goal.returns-in-None
returns-in-None c = rw (← c.self.view_is, due-earliest c.self.inside.clock c.self.inside.leases, ← c.earliest.ensures, c.in-None.is)

pub returns-then-entry-self : goal.returns-then-entry-self
returns-then-entry-self c =
    let come : leb c.in-Some.entry.deadline c.self.inside.clock ≡ true = grind (arith, nat_tests) in
    let fits : FitsSigned w64 c.in-Some.entry.id = search rules in
    rw (
      to_z-of_z w64 c.in-Some.entry.id fits,
      ← c.self.view_is,
      due-earliest c.self.inside.clock c.self.inside.leases,
      ← c.earliest.ensures,
      c.in-Some.is,
      come,
    )

pub returns-else-entry-self : goal.returns-else-entry-self
returns-else-entry-self c =
    let ahead : leb c.in-Some.entry.deadline c.self.inside.clock ≡ false = grind (arith, nat_tests) in
    rw (← c.self.view_is, due-earliest c.self.inside.clock c.self.inside.leases, ← c.earliest.ensures, c.in-Some.is, ahead)
