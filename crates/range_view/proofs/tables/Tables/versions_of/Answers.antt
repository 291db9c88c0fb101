use Rattle.range_view.proofs.tables.Tables.versions_of.Goals as goal

pub new-requires : goal.new-requires
new-requires c = record { rising = c.self.invariant.stored.rising; agrees = c.self.invariant.agrees }

pub returns-clause-stored : goal.returns-clause-stored
returns-clause-stored c = rw (← c.self.view_is) c.self.invariant.stored
