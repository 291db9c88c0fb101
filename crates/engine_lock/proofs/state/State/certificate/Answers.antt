use Rattle.std.proofs.Common.{refl, ◌∙◌, ap}
use Rattle.engine_lock.specs.Copied.{Copied, appended}
use Rattle.event_book.specs.Events.{Event, entry, led_to}
use Rattle.json_gateway.specs.Runs.{certified_outcome}
use Rattle.kv_model.specs.Wire.{WireEvent}
use Rattle.event_book.proofs.Raising.{rise_certificate}
use Rattle.event_script.proofs.Writing.{written_certificate}
use Rattle.engine_lock.proofs.Fitting.{answers_entered}
use Rattle.engine_lock.proofs.Locking.{locked_more}
use Rattle.engine_lock.proofs.Submitting.{makes_noted, noted}
use Rattle.engine_lock.proofs.state.State.certificate.Goals as goal

pub note-requires-clause-answers : goal.note-requires-clause-answers
note-requires-clause-answers g c =
    (answers_entered g.L.ListName.ids c.self.inside.copies.core c.self.inside.copies.core c.certified-shown.new.self.core c.self.inside.listing
    (appended c.self.inside.copies.feed) (appended c.certified-shown.new.self.feed) (entry c.args.client.now.holder.number c.args.client.now.about (Event.certificate) (certified_outcome c.certified-shown.result)) c.self.invariant.0.fits (λ w h. h) (c.certified-shown.ensures.makes g.L.ListName.ids))

pub note-requires-clause-rises : goal.note-requires-clause-rises
note-requires-clause-rises g c = rise_certificate (led_to c.self.inside.listing) c.args.client.now.holder.number c.args.client.now.about (certified_outcome c.certified-shown.result)

pub invariant_of-self : goal.invariant_of-self
invariant_of-self g c = (
  locked_more g.L.ListName.ids c.self.inside.copies.core c.self.inside.copies.core c.certified-shown.new.self.core c.self.inside.listing c.note.new.listing (appended c.self.inside.copies.feed)
      (appended c.certified-shown.new.self.feed) c.self.inside.lines c.self.inside.lines c.self.inside.taken (entry c.args.client.now.holder.number c.args.client.now.about (Event.certificate) (certified_outcome c.certified-shown.result)) c.self.invariant.0 (λ w h. h)
      refl (c.certified-shown.ensures.makes g.L.ListName.ids) c.note.ensures.log
      (λ w. written_certificate c.self.inside.lines c.self.inside.lines c.self.inside.taken c.self.inside.listing c.args.client.now.holder.number c.args.client.now.about (certified_outcome c.certified-shown.result) w refl),
  ap (λ (x : Copied). x.feed.book) c.certified-shown.ensures.same ∙ c.self.invariant.1,
  c.self.invariant.2,
)

pub returns : goal.returns
returns g c = makes_noted g.L.ListName.ids c.args.client.now c.note.new.self Event.certificate WireEvent.certify (certified_outcome c.certified-shown.result) c.self.inside.listing c.self.inside.copies.core c.certified-shown.new.self.core
    (noted g.L.ListName.ids c.args.client.now (Event.certificate) (certified_outcome c.certified-shown.result) c.note.new.self c.self.inside.listing c.note.new.listing c.requires c.note.ensures.adds c.note.ensures.same c.note.ensures.front c.note.ensures.log) c.self.invariant.0.fits.stands (c.certified-shown.ensures.steps g.L.ListName.ids)
