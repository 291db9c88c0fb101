use Rattle.std.proofs.Common.{refl, ◌∙◌, ap, rules}
use Rattle.engine_lock.specs.Copied.{Publication, appended}
use Rattle.event_book.specs.Events.{Event, entry, led_to}
use Rattle.kv_model.specs.Follows.Outcome.{said}
use Rattle.kv_model.specs.Wire.{WireEvent, WireTold}
use Rattle.event_book.proofs.Raising.{rise_moment}
use Rattle.event_script.proofs.Writing.{written_moment}
use Rattle.engine_lock.proofs.Fitting.{answers_entered}
use Rattle.engine_lock.proofs.Locking.{locked_more}
use Rattle.engine_lock.proofs.Submitting.{makes_noted, noted}
use Rattle.engine_lock.proofs.state.State.moment.Goals as goal

pub note-requires-clause-answers : goal.note-requires-clause-answers
note-requires-clause-answers g c =
    (answers_entered g.L.ListName.ids c.self.inside.copies.core c.self.inside.copies.core c.moved-clock.new.self.core c.self.inside.listing
    (appended c.self.inside.copies.feed) (appended c.moved-clock.new.self.feed) (entry c.args.client.now.holder.number c.args.client.now.about (Event.moment c.args.now) (said (WireTold.clock c.moved-clock.result))) c.self.invariant.0.fits (λ w h. h) (c.moved-clock.ensures.makes g.L.ListName.ids))

pub note-requires-clause-rises : goal.note-requires-clause-rises
note-requires-clause-rises g c = rise_moment (led_to c.self.inside.listing) c.args.client.now.holder.number c.args.client.now.about c.args.now (said (WireTold.clock c.moved-clock.result))

pub invariant_of-self : goal.invariant_of-self
invariant_of-self g c = (
  locked_more g.L.ListName.ids c.self.inside.copies.core c.self.inside.copies.core c.moved-clock.new.self.core c.self.inside.listing c.note.new.listing (appended c.self.inside.copies.feed)
      (appended c.moved-clock.new.self.feed) c.self.inside.lines c.hand_in.new.self c.self.inside.taken (entry c.args.client.now.holder.number c.args.client.now.about (Event.moment c.args.now) (said (WireTold.clock c.moved-clock.result))) c.self.invariant.0 (λ w h. h)
      refl (c.moved-clock.ensures.makes g.L.ListName.ids) c.note.ensures.log
      (λ w. written_moment c.self.inside.lines c.hand_in.new.self c.self.inside.taken c.self.inside.listing c.args.client.now.holder.number c.args.client.now.about c.args.now (said (WireTold.clock c.moved-clock.result)) w (search rules) c.hand_in.ensures),
  ap (λ (p : Publication). p.book) c.moved-clock.ensures.feed ∙ c.self.invariant.1,
  c.self.invariant.2,
)

pub returns-clause-makes : goal.returns-clause-makes
returns-clause-makes g c = makes_noted g.L.ListName.ids c.args.client.now c.note.new.self (Event.moment c.args.now) (WireEvent.moment c.args.now) (said (WireTold.clock c.moved-clock.result)) c.self.inside.listing c.self.inside.copies.core c.moved-clock.new.self.core
    (noted g.L.ListName.ids c.args.client.now (Event.moment c.args.now) (said (WireTold.clock c.moved-clock.result)) c.note.new.self c.self.inside.listing c.note.new.listing c.requires c.note.ensures.adds c.note.ensures.same c.note.ensures.front c.note.ensures.log) c.self.invariant.0.fits.stands (c.moved-clock.ensures.steps g.L.ListName.ids)
