use Rattle.range_view.proofs.tables.Tables.revision.Goals as goal

pub returns-clause-stored : goal.returns-clause-stored
returns-clause-stored c = rw (← c.self.view_is) c.self.invariant.stored
