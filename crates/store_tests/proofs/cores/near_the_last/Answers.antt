-- A core of tables at a late revision and of the rest of a fresh one.
use Rattle.std.proofs.Common.{◌≡◌, ◌∙◌, ap, arith, [], refl, subst, sym}
use Rattle.range_view.specs.Stored.{Stored, blank}
use Rattle.request_core.specs.Apart.{CanJoin}
use Rattle.request_core.specs.State.{tables_of}
use Rattle.request_core.proofs.Leased.{blank-sound}
use Rattle.store_tests.proofs.cores.near_the_last.Goals as goal

pub join-core-requires : goal.join-core-requires
join-core-requires c =
    let bare : c.part-tables.result.0 ≡ blank = ap tables_of c.part-tables.ensures.core ∙ c.new.ensures.kept in
    let parted : CanJoin blank c.part-tables.result.1 = subst (λ (t : Stored). CanJoin t c.part-tables.result.1) bare c.part-tables.ensures.can in
    subst (λ (t : Stored). CanJoin t c.part-tables.result.1) (sym c.at-late.ensures)
    (record { sound = (blank-sound _ [] (omega arith) refl).0; just = parted.just })
