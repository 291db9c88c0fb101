use Rattle.std.proofs.Common.{sym, ◌∙◌, ap, subst, cond, rules}
use Rattle.engine_lock.specs.Copied.{Publication, appended}
use Rattle.engine_lock.specs.Fits.{MakesOn}
use Rattle.event_book.specs.Events.{Event, entry, led_to}
use Rattle.recording.specs.Lines.{Written}
use Rattle.event_script.specs.Notes.{NotesExpiry, step_outcome}
use Rattle.event_script.proofs.Writing.{written_expiry}
use Rattle.engine_lock.proofs.Fitting.{answers_entered}
use Rattle.engine_lock.proofs.Locking.{locked_more}
use Rattle.engine_lock.proofs.Rising.{expiry_rises}
use Rattle.engine_lock.proofs.Submitting.{expires_made, noted}
use Rattle.engine_lock.proofs.state.State.end.Goals as goal

pub note-requires-clause-answers : goal.note-requires-clause-answers
note-requires-clause-answers g c =
    (answers_entered g.L.ListName.ids c.self.inside.copies.core c.moved.new.self.core c.expired-step.new.self.core c.self.inside.listing
    (appended c.self.inside.copies.feed) (appended c.expired-step.new.self.feed) (entry c.args.client.now.holder.number c.args.client.now.about (Event.expiry c.args.now) (step_outcome c.expired-step.result)) c.self.invariant.0.fits c.moved.ensures.stands
    (subst (λ (p : Publication). MakesOn g.L.ListName.ids (Event.expiry c.args.now) (step_outcome c.expired-step.result) c.moved.new.self.core c.expired-step.new.self.core (appended p) (appended c.expired-step.new.self.feed))
    c.moved.ensures.feed (c.expired-step.ensures.on g.L.ListName.ids c.args.now)))

pub note-requires-clause-rises : goal.note-requires-clause-rises
note-requires-clause-rises g c =
    expiry_rises g.L.ListName.ids (led_to c.self.inside.listing) c.args.client.now.holder.number c.args.client.now.about c.args.now c.expired-step.result
    (answers_entered g.L.ListName.ids c.self.inside.copies.core c.moved.new.self.core c.expired-step.new.self.core c.self.inside.listing
    (appended c.self.inside.copies.feed) (appended c.expired-step.new.self.feed) (entry c.args.client.now.holder.number c.args.client.now.about (Event.expiry c.args.now) (step_outcome c.expired-step.result)) c.self.invariant.0.fits c.moved.ensures.stands
    (subst (λ (p : Publication). MakesOn g.L.ListName.ids (Event.expiry c.args.now) (step_outcome c.expired-step.result) c.moved.new.self.core c.expired-step.new.self.core (appended p) (appended c.expired-step.new.self.feed))
    c.moved.ensures.feed (c.expired-step.ensures.on g.L.ListName.ids c.args.now)))
    ∙ ap (λ b. cond b 1 0) (sym c.has_raised-raised.ensures)

pub invariant_of-self : goal.invariant_of-self
invariant_of-self g c = (
  locked_more g.L.ListName.ids c.self.inside.copies.core c.moved.new.self.core c.expired-step.new.self.core c.self.inside.listing c.note.new.listing (appended c.self.inside.copies.feed)
      (appended c.expired-step.new.self.feed) c.self.inside.lines c.note_expired.new.lines c.self.inside.taken (entry c.args.client.now.holder.number c.args.client.now.about (Event.expiry c.args.now) (step_outcome c.expired-step.result)) c.self.invariant.0 c.moved.ensures.stands
      c.moved.ensures.tables (subst (λ (p : Publication). MakesOn g.L.ListName.ids (Event.expiry c.args.now) (step_outcome c.expired-step.result) c.moved.new.self.core c.expired-step.new.self.core (appended p) (appended c.expired-step.new.self.feed))
      c.moved.ensures.feed (c.expired-step.ensures.on g.L.ListName.ids c.args.now)) c.note.ensures.log
      (λ w. written_expiry c.self.inside.lines c.note_expired.new.lines c.self.inside.taken c.self.inside.listing c.args.client.now.holder.number c.args.client.now.about c.args.now
      c.expired-step.result w (search rules) (subst (λ (l : Written). NotesExpiry c.expired-step.result l c.note_expired.new.lines) c.hand_in.ensures c.note_expired.ensures)),
  c.expired-step.ensures.book ∙ (ap (λ (p : Publication). p.book) c.moved.ensures.feed ∙ c.self.invariant.1),
  c.self.invariant.2,
)

pub returns-clause-submits : goal.returns-clause-submits
returns-clause-submits g c =
    expires_made g.L.ListName.ids c.args.client.now c.note.new.self c.args.now c.expired-step.result c.self.inside.listing c.moved.new.self.core c.expired-step.new.self.core
    (noted g.L.ListName.ids c.args.client.now (Event.expiry c.args.now) (step_outcome c.expired-step.result) c.note.new.self c.self.inside.listing c.note.new.listing c.requires c.note.ensures.adds c.note.ensures.same c.note.ensures.front c.note.ensures.log) (c.moved.ensures.stands (led_to c.self.inside.listing) c.self.invariant.0.fits.stands) c.expired-step.ensures.makes
