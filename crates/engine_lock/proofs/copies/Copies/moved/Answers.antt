use Rattle.kv_model.specs.Follows.Outcome.{said}
use Rattle.kv_model.specs.Wire.{WireEvent, WireTold}
use Rattle.store_laws.specs.Snapshots.{store_of}
use Rattle.event_book.specs.Publishing.{published_by}
use Rattle.request_core.specs.Apart.{joined}
use Rattle.engine_lock.proofs.Copying.{found_apart, found_whole, steps_found}
use Rattle.engine_lock.proofs.copies.Copies.moved.Goals as goal

pub returns-in-Apart-clause-steps : goal.returns-in-Apart-clause-steps
returns-in-Apart-clause-steps c =
    let shown = store_of (published_by c.self.inside.feed.published) in
    steps_found (WireEvent.moment c.args.now) (said (WireTold.clock c.moved_apart.result)) c.args.self.now.core (joined shown c.in-Apart.rest)
    (joined shown c.moved_apart.new.rest)
    (found_apart c.self.inside.hold c.self.inside.feed c.args.self.now c.in-Apart.rest c.self.view_is c.in-Apart.is)
    (λ ids. c.moved_apart.ensures.steps ids shown)

pub returns-clause-steps : goal.returns-clause-steps
returns-clause-steps c = steps_found (WireEvent.moment c.args.now) (said (WireTold.clock c.moved.result)) c.args.self.now.core c.in-Whole.core
    c.moved.new.core (found_whole c.self.inside.hold c.self.inside.feed c.args.self.now c.in-Whole.core c.in-Whole.field-1 c.self.view_is c.in-Whole.is)
    c.moved.ensures.steps
