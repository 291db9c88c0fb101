use Rattle.engine_lock.specs.Copied.{appended}
use Rattle.engine_lock.proofs.Fitting.{front_shown, front_tells}
use Rattle.engine_lock.proofs.state.State.tell.Goals as goal

pub show-requires-clause-shown : goal.show-requires-clause-shown
show-requires-clause-shown g c =
    front_shown c.self.inside.copies.core c.self.inside.listing c.front.result.list (appended c.self.inside.copies.feed) c.self.invariant.0.fits c.front.ensures.list

pub show-requires-clause-all : goal.show-requires-clause-all
show-requires-clause-all g c =
    front_tells c.self.inside.copies.core c.self.inside.listing c.front.result.list (appended c.self.inside.copies.feed) c.self.invariant.0.fits c.front.ensures.list

pub show-requires-clause-stored : goal.show-requires-clause-stored
show-requires-clause-stored g c = c.self.invariant.0.fits.stored
