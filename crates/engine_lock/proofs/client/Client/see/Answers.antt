use Rattle.std.proofs.Common.{◌∙◌, sym}
use Rattle.event_book.proofs.Raising.{raised_shows}
use Rattle.engine_lock.proofs.client.Client.see.Goals as goal

pub invariant_of-self : goal.invariant_of-self
invariant_of-self g c = (c.self.invariant.0 ∙ sym (raised_shows c.self.inside.holder c.show.new.holder c.show.ensures.shows), c.self.invariant.1)
