-- What is left is below the revision that goes.
use Rattle.std.proofs.Common.{◌-◌, arith}
use Rattle.range_view.proofs.Growing.{below-upto}
use Rattle.range_view.proofs.tables.Tables.retract_present.Goals as goal

pub take_back-requires : goal.take_back-requires
take_back-requires c = record { upto = c.self.invariant.stored.upto; tied = record { rising = c.self.invariant.stored.rising; agrees = c.self.invariant.agrees } }

pub invariant_of-self : goal.invariant_of-self
invariant_of-self c =
    let more = rw (← c.self.view_is) at c.requires in
    record {
      stored = record { opened = omega (arith, more); rising = c.take_back.ensures.tied.rising; upto = below-upto c.self.inside.revision c.take_back.new.table c.take_back.ensures.older };
      agrees = c.take_back.ensures.tied.agrees;
    }

pub returns : goal.returns
returns c = rw (← c.self.view_is) (λ i. record { versions = c.take_back.ensures.table i; compacted = c.self.inside.compacted; revision = c.self.inside.revision - 1; place = c.self.inside.trimmer })
