-- The versions are as they were.
use Rattle.range_view.proofs.tables.Tables.compact.Goals as goal

pub invariant_of-self : goal.invariant_of-self
invariant_of-self c =
    let stored = c.self.invariant.stored in
    record { stored = record { opened = stored.opened; rising = stored.rising; upto = stored.upto }; agrees = c.self.invariant.agrees }
